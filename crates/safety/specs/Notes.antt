-- The annotation that an accepted program has: for each slot in scope its type, and the types that come back as blocks end.
use Rattle.std.specs.Prelude.{ℕ, Bool, cond, ◌&&◌, List, [], ◌∷◌, ◌==◌}
use Rattle.table.specs.declared.types.Kind.{Kind}
use Rattle.table.specs.declared.types.Kind.TheVariants.{Number, Alias, Owned, Pristine}
use Rattle.table.specs.declared.types.Ty.{Ty}
use Rattle.table.specs.Program.{Program}
use Rattle.rules.specs.Rules.{callee}
use Rattle.rules.specs.Scopes.{Block, saved, before}
use Rattle.safety.specs.Checked.{Notes, entered}

-- the byte of a kind
abbrev pub kind_byte : Kind → ℕ
kind_byte Number = 0
kind_byte Alias = 1
kind_byte Owned = 2
kind_byte Pristine = 3

abbrev pub same : Ty → Ty → Bool
same t u = kind_byte t.kind == kind_byte u.kind && t.strukt == u.strukt && t.withheld == u.withheld

-- types over those that come back: a slot whose type a block has changed keeps the old one under the new
abbrev pub over : List Ty → List (Ty × List Ty) → List (Ty × List Ty)
over [] l = []
over (t ∷ ts) [] = (t, []) ∷ over ts []
over (t ∷ ts) (a ∷ l) = (t, cond (same t a.0) a.1 (a.0 ∷ a.1)) ∷ over ts l

abbrev pub annotate : List Ty → List Block → List (Ty × List Ty)
annotate ts [] = entered ts
annotate ts (b ∷ bs) = over ts (annotate (saved b) bs)

-- from the types and the open blocks before each record
abbrev pub notes : Program → Notes
notes p n i = annotate (before p (callee p n) i).types (before p (callee p n) i).blocks
