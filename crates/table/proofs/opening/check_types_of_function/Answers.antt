use Rattle.std.proofs.Common.{rules, ◌≡◌, ℕ, Ok}
use Rattle.table.specs.Faults.{Passes, each}
use Rattle.table.specs.Program.{param_count, param_place, type_passes}
use Rattle.table.specs.Reading.{bytes_of}
use Rattle.table.proofs.Listing.{each_last}
use Rattle.table.proofs.opening.check_types_of_function.Goals as goal

pub returns : goal.returns
returns c =
    let at : ℕ → Passes = λ i. type_passes (bytes_of c.args.table.now) (param_place (bytes_of c.args.table.now) c.args.n i) in
    let e : each (param_count (bytes_of c.args.table.now) c.args.n) at ≡ Ok tt = search rules in
    each_last (param_count (bytes_of c.args.table.now) c.args.n) at c.check_type.result e (search rules)
