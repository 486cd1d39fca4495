use Rattle.std.proofs.Common.{rules, ◌≡◌, ℕ, ◌≤◌, length, Ok, ltb, sym, ap, ◌∙◌}
use Rattle.table.specs.Faults.{required}
use Rattle.table.specs.Reading.{program_of}
use Rattle.table.specs.Program.{Program}
use Rattle.rules.specs.Checked.{checked}
use Rattle.rules.proofs.Checked.{checked_large}
use Rattle.memory.specs.Model.{has_object}
use Rattle.owning.proofs.owners.Goals as goal

-- what is accepted in the part of the scratch that is lent is accepted in the whole
accepted_in : (n k : ℕ) (p : Program) (u : Unit {0}) → 128 ≤ n → 128 ≤ k → Ok u ≡ checked k p → checked n p ≡ Ok u
accepted_in n k p u h l e = sym (checked_large n p h) ∙ checked_large k p l ∙ sym e

pub invariant_of-in_threads : goal.invariant_of-in_threads
invariant_of-in_threads g c =
    let room : 128 ≤ length c.in-Some.scratch.now = search rules in
    record { accepted = checked_large _ (program_of c.args.table.now) room ∙ sym c.in_ok-check.ensures.value }

pub returns-in_err-require_frames : goal.returns-in_err-require_frames
returns-in_err-require_frames g c =
    let room : 128 ≤ length c.in-Some.scratch.now = search rules in
    let whole = accepted_in (length c.args.scratch.now) _ (program_of c.args.table.now) _ c.in-Some.ensures.cases.enough room c.in_ok-check.ensures.value in
    let m = g.M.Memory.model c.args.memory.now in
    let o = c.args.object in
    let there = c.in_ok-require.ensures ∙ ap (λ n. required (ltb o n) c.at-2.result) c.count.ensures.value ∙ ap (required (has_object m o)) c.at-2.ensures in
    rw (whole, ← there) (search rules)

pub returns : goal.returns
returns g c =
    let room : 128 ≤ length c.in-Some.scratch.now = search rules in
    let whole = accepted_in (length c.args.scratch.now) _ (program_of c.args.table.now) _ c.in-Some.ensures.cases.enough room c.in_ok-check.ensures.value in
    let m = g.M.Memory.model c.args.memory.now in
    let o = c.args.object in
    let there = c.in_ok-require.ensures ∙ ap (λ n. required (ltb o n) c.at-2.result) c.count.ensures.value ∙ ap (required (has_object m o)) c.at-2.ensures in
    rw (whole, ← there) (search rules)
