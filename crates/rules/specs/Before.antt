-- The scope before a record: what is answered.
use Rattle.std.specs.Prelude.{◌≡◌, ℕ, cond, List, length, take, Ok, Err, Result, nat_lt}
use Rattle.table.specs.declared.fault.Fault.{Fault}
use Rattle.table.specs.declared.fault.Place.TheVariants.{Nothing, Record}
use Rattle.table.specs.declared.types.Ty.{Ty}
use Rattle.table.specs.Faults.{fault, ◌>>=◌, Passes}
use Rattle.table.specs.Program.{Program}
use Rattle.rules.specs.Rules.{callee}
use Rattle.rules.specs.Scopes.{read, start, before}

-- the verdict on the records before record i of function n
abbrev pub read_before : Program → ℕ → ℕ → Passes
read_before p n i = read p (callee p n) n 0 (start p (callee p n)) (take i (callee p n).records)

-- how many types are in scope before record i of function n: 20 where there is no such record, and else the refusal of the first record before it
-- that its rule refuses
abbrev pub counted : Program → ℕ → ℕ → Result ℕ Fault
counted p n i =
    cond (nat_lt i (length (callee p n).records))
    (read_before p n i >>= λ _. Ok (length (before p (callee p n) i).types))
    (Err (fault 20 (Record n i)))

-- the same, given scratch for so many: 30 for too little of that
abbrev pub scoped : ℕ → Program → ℕ → ℕ → Result ℕ Fault
scoped room p n i = cond (nat_lt room 128) (Err (fault 30 Nothing)) (counted p n i)

-- with so many in scope, these are the types in the front of xs
abbrev pub Fronts : List Ty → List Ty → Result ℕ Fault → Type 0
Fronts ts xs (Ok d) = take d xs ≡ ts
Fronts ts xs (Err e) = Unit {0}
