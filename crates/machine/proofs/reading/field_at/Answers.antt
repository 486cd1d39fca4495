use Rattle.std.proofs.Common.{ap, ◌∙◌}
use Rattle.std.proofs.lemmas.Option.{unwrap_or-slice_get}
use Rattle.std.specs.Option.{unwrap_or}
use Rattle.table.specs.Reading.{program_of, field_of}
use Rattle.rules.specs.Rules.{no_field}
use Rattle.machine.specs.declared.threads.Slot.TheVariants.{Reference}
use Rattle.machine.specs.Reading.{fields}
use Rattle.machine.proofs.reading.field_at.Goals as goal

pub returns : goal.returns
returns g c =
    let p = program_of c.args.table.now in
    let m = g.M.Memory.model c.args.memory.now in
    record {
      value =
          c.unwrap_or.ensures
          ∙ ap (λ o. unwrap_or o no_field) (c.field.ensures ∙ ap (λ k. field_of p k c.args.f) c.kind_of.ensures)
          ∙ unwrap_or-slice_get (fields p m (Reference c.args.object)) c.args.f no_field;
    }
