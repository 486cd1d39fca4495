use Rattle.std.proofs.Common.{◌≡◌, take, ap, ◌∙◌, arith, rules}
use Rattle.list.proofs.Ends.{front_is}
use Rattle.rules.specs.Rules.{callee}
use Rattle.rules.specs.Seen.{seen}
use Rattle.rules.specs.InScope.{in_scope}
use Rattle.rules.proofs.Walk.{accepted_of, gives, no_step}
use Rattle.rules.proofs.walking.scope_before.Goals as goal

pub returns-then-index-records-clause-found : goal.returns-then-index-records-clause-found
unfolding seen
returns-then-index-records-clause-found c = λ v there room. absurd (omega (arith, c.records.ensures.value))

pub returns-in_default-clause-found : goal.returns-in_default-clause-found
unfolding seen
returns-in_default-clause-found c = λ v there room.
    let i = c.args.index in
    let ok = accepted_of (seen c.args.table.now) c.args.function i v there in
    absurd (no_step (record { table = c.args.table.now; function = c.args.function }) i (in_scope c.advance.new.types) c.advance.result c.in_default.not-Some (c.advance.ensures.leads c.loop-place.invariant.1) ok there)

pub returns-clause-missing : goal.returns-clause-missing
unfolding seen
returns-clause-missing c = λ h. absurd (omega (arith, c.records.ensures.value))

pub returns-clause-found : goal.returns-clause-found
unfolding seen
returns-clause-found c = λ v there room.
    let p = seen c.args.table.now in
    let i = c.args.index in
    let list = c.loop-place.types.list.now in
    let here : c.loop-place.place ≡ c.args.index = omega arith in
    let front : take c.len.result c.loop-place.types.list.now.items.now ≡ in_scope c.loop-place.types =
    ap (λ n. take n list.items.now) c.len.ensures.value ∙ front_is list.len list.items.now
    in
    gives p (callee p c.args.function) i c.loop-place.place c.len.result (in_scope c.loop-place.types) _ here c.len.ensures.value (search rules)
    (c.loop-place.invariant.1 (accepted_of p c.args.function i v there) there)
