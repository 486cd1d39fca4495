use Rattle.std.proofs.Common.{reverse, ◌+◌, ◌<◌, ◌≤◌, length, sym, ap, ◌∙◌, arith, length-take, rules}
use mathlib.Core.Path.{subst⁻¹}
use Rattle.list.specs.Held.{held, room}
use Rattle.list.proofs.Ends.{popped_less}
use Rattle.rules.specs.InScope.{in_scope}
use Rattle.rules.specs.Stacks.{Deep}
use Rattle.rules.proofs.Judging.{none_left}
use Rattle.rules.proofs.Stacks.{end_none, end_later, back_deep, end_on, end_over, over_deep}
use Rattle.rules.proofs.scoping.+end_blocks.Goals as goal

pub returns-in_default-clause-state : goal.returns-in_default-clause-state
returns-in_default-clause-state t c =
    end_none c.args.place (in_scope c.args.types.now) (held c.args.blocks.now.list.now) (sym (none_left c.last.result c.in_default.not-Some) ∙ c.last.ensures)

pub returns-then-block-place-clause-state : goal.returns-then-block-place-clause-state
returns-then-block-place-clause-state t c = end_later c.args.place (in_scope c.args.types.now) (held c.args.blocks.now.list.now) c.in-Some.block c.in-Some.ensures c.if-block-place.true

pub end_blocks-requires : goal.end_blocks-requires
end_blocks-requires t c =
    let hs = held c.args.blocks.now.list.now in
    let gs = held c.pop.new.self in
    let less : length (held c.pop.new.self) < length (held c.args.blocks.now.list.now) = subst⁻¹ (λ os. length os < length hs) c.pop.ensures.held (popped_less hs c.in-Some.block c.in-Some.ensures) in
    let below : Deep (length (in_scope c.bring_back.new.self)) (reverse (held c.pop.new.self)) =
    back_deep c.args.place (in_scope c.args.types.now) hs c.in-Some.block c.in-Some.ensures (in_scope c.bring_back.new.self) gs c.if-block-place.false c.requires.deep
    c.bring_back.ensures.types c.pop.ensures.held
    in
    search rules

pub returns-then-count-eq0-clause-state : goal.returns-then-count-eq0-clause-state
returns-then-count-eq0-clause-state t c =
    end_on c.args.place (in_scope c.args.types.now) (held c.args.blocks.now.list.now) c.in-Some.block c.in-Some.ensures (in_scope c.bring_back.new.self) (held c.pop.new.self)
    c.if-block-place.false c.requires.deep c.bring_back.ensures.types c.pop.ensures.held _ (sym c.following-count.ensures ∙ c.if-count-eq0.true) c.end_blocks.ensures.state

pub returns-else-count-eq0-clause-state : goal.returns-else-count-eq0-clause-state
returns-else-count-eq0-clause-state t c =
    let full : length (held c.args.blocks.now.list.now) ≤ room c.pop.new.self = omega (arith, length-take c.args.blocks.now.list.now.len c.args.blocks.now.list.now.items.now, c.pop.ensures.room) in
    end_over c.args.place (in_scope c.args.types.now) (held c.args.blocks.now.list.now) c.in-Some.block c.in-Some.ensures (in_scope c.bring_back.new.self) (held c.pop.new.self)
    c.if-block-place.false c.requires.deep c.bring_back.ensures.types c.pop.ensures.held (room c.pop.new.self) (c.args.place + c.following-count.result) (held c.push.new.self) full
    c.push.ensures.held (λ z. c.if-count-eq0.false (c.following-count.ensures ∙ z)) (ap (λ n. c.args.place + n) c.following-count.ensures)

pub returns-else-count-eq0-clause-deep : goal.returns-else-count-eq0-clause-deep
returns-else-count-eq0-clause-deep t c =
    let full : length (held c.args.blocks.now.list.now) ≤ room c.pop.new.self = omega (arith, length-take c.args.blocks.now.list.now.len c.args.blocks.now.list.now.items.now, c.pop.ensures.room) in
    over_deep c.args.place (in_scope c.args.types.now) (held c.args.blocks.now.list.now) c.in-Some.block c.in-Some.ensures (in_scope c.bring_back.new.self) (held c.pop.new.self)
    c.if-block-place.false c.requires.deep c.bring_back.ensures.types c.pop.ensures.held (room c.pop.new.self) (c.args.place + c.following-count.result) (held c.push.new.self) full
    c.push.ensures.held
