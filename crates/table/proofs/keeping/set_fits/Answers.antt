use Rattle.std.proofs.Common.{◌≤◌, sym, ◌∙◌, arith}
use Rattle.table.specs.Types.{set_fits}
use Rattle.table.specs.Program.{struct_at, field_total, field_at}
use Rattle.table.specs.Reading.{bytes_of}
use Rattle.table.proofs.Sets.{set_all, set_turn}
use Rattle.table.proofs.keeping.set_fits.Goals as goal

-- the field may not be withheld, or it may and the loop goes on
pub returns-then-not-first_fits : goal.returns-then-not-first_fits
returns-then-not-first_fits c =
    let t = set_turn c.args.kind (field_total (bytes_of c.args.table.now) c.args.s) (field_at (bytes_of c.args.table.now) c.args.s) c.loop-f.f c.loop-f.rest c.field_at.result (set_fits c.args.kind (struct_at (bytes_of c.args.table.now) c.args.s) c.args.set) c.first_fits.result
    (omega arith) c.field_at.ensures c.loop-f.invariant c.first_fits.ensures in
    rw c.if-not-first_fits.true at t

pub loop-f-preserved : goal.loop-f-preserved
loop-f-preserved c =
    let t = set_turn c.args.kind (field_total (bytes_of c.args.table.now) c.args.s) (field_at (bytes_of c.args.table.now) c.args.s) c.loop-f.f c.loop-f.rest c.field_at.result (set_fits c.args.kind (struct_at (bytes_of c.args.table.now) c.args.s) c.args.set) c.first_fits.result
    (omega arith) c.field_at.ensures c.loop-f.invariant c.first_fits.ensures in
    rw c.if-not-first_fits.false at t

pub returns : goal.returns
returns c =
    let h : field_total (bytes_of c.args.table.now) c.args.s ≤ c.loop-f.f = omega arith in
    sym (set_all c.args.kind (field_total (bytes_of c.args.table.now) c.args.s) (field_at (bytes_of c.args.table.now) c.args.s) c.loop-f.f c.loop-f.rest h) ∙ c.loop-f.invariant
