use Rattle.std.proofs.Common.{rules, ◌≡◌, false, ltb, ◌∙◌, arith}
use Rattle.std.proofs.lemmas.Bool.Decides.{nat_tests}
use Rattle.table.specs.Types.{is_number}
use Rattle.table.specs.Reading.{bytes_of}
use Rattle.table.proofs.Sets.{keeps_reference, lacks_struct}
use Rattle.table.proofs.keeping.keeps_rules.Goals as goal

pub returns-then-ty-struct_total : goal.returns-then-ty-struct_total
returns-then-ty-struct_total c =
    let k : is_number c.args.ty.kind ≡ false = search rules in
    keeps_reference (bytes_of c.args.table.now) c.args.ty c.set_fits.result (omega arith) k (omega arith) c.set_fits.ensures

pub returns-else-ty-struct_total : goal.returns-else-ty-struct_total
returns-else-ty-struct_total c =
    let k : is_number c.args.ty.kind ≡ false = search rules in
    let e : ltb c.args.ty.strukt c.struct_total.result ≡ false = grind (arith, nat_tests) in
    e ∙ lacks_struct (bytes_of c.args.table.now) c.args.ty (omega arith) k (omega arith)
