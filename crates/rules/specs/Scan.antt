-- A body read block by block: a block calls for its tests, and a test for its blocks. It gives the verdict of the reading record by record.
use Rattle.std.specs.Prelude.{◌≡◌, ℕ, zero, suc, ◌+◌, ◌-◌, ◌<◌, ◌≤◌, Bool, true, false, cond, not, ◌&&◌, ◌||◌, List, [], ◌∷◌, ◌++◌, length, take, drop, Some, None, Ok, Err, Option, Result, ◌==◌, nat_le, nat_lt}
use Rattle.table.specs.declared.fault.Place.TheVariants.{Record}
use Rattle.table.specs.declared.fault.Fault.{Fault}
use Rattle.table.specs.declared.types.Ty.{Ty}
use Rattle.table.specs.declared.records.Test.{Test}
use Rattle.table.specs.Faults.{fault, ◌>>=◌, Passes}
use Rattle.table.specs.Records.{Op}
use Rattle.table.specs.Program.{Function, Program}
use Rattle.rules.specs.declared.parts.Sort.{Sort}
use Rattle.rules.specs.declared.parts.Sort.TheVariants.{InBody, InYes, InNo}
use Rattle.rules.specs.Rules.{first, premises, bound, yes_types}
use Rattle.rules.specs.Scopes.{Block, Yes, No, Shape, Plain, Last, Joins, Asks, shape, grown, settled, read, start, verdict}

-- a body, a yes block with the count of its no block, or a no block
abbrev pub sort_of : List Block → Sort
sort_of [] = InBody
sort_of (Yes k e s ∷ bs) = InYes k
sort_of (No e s ∷ bs) = InNo

abbrev pub is_no : Sort → Bool
is_no InBody = false
is_no InNo = true
is_no (InYes k) = false

abbrev pub is_yes : ℕ → Sort → Bool
is_yes n InBody = false
is_yes n InNo = false
is_yes n (InYes k) = n == k

-- a record may stand before so many more of its block, with so many levels left below
abbrev pub fitting : ℕ → ℕ → Sort → Shape → Bool
fitting levels left q Plain = not (left == 0) || is_no q
fitting levels left q Last = left == 0
fitting levels left q (Joins n) = left == 0 && is_yes n q
fitting levels left q (Asks t a b) = not (a == 0) && cond (is_no q) (nat_le (a + b) left) (nat_lt (a + b) left) && not (levels == 0)

-- levels left below, place, types in scope, sort of block, the block's records from there on
abbrev pub Scanner : Type 0
Scanner = ℕ → ℕ → List Ty → Sort → List (Option Op) → Passes

module _ (p : Program) (fn : Function) (k : ℕ) where
  abbrev pub judge : ℕ → ℕ → Sort → List Ty → Option Op → Option ℕ
  judge levels left q ts None = Some 20
  judge levels left q ts (Some op) = first (premises p fn ts op ++ ((28, fitting levels left q (shape op)) ∷ []))

  -- a test: its yes block, its no block, and what comes behind them
  abbrev pub test_by : Scanner → ℕ → ℕ → List Ty → Sort → Test → ℕ → ℕ → List (Option Op) → Passes
  test_by go levels i ts q t a b rs =
      go (levels - 1) (suc i) (yes_types p fn ts t) (InYes b) (take a rs) >>= λ _.
      (go (levels - 1) (suc i + a) ts InNo (take b (drop a rs)) >>= λ _.
      go levels (suc i + a + b) ts q (drop (a + b) rs))

  abbrev pub follow : Scanner → ℕ → ℕ → List Ty → List Ty → Sort → Shape → List (Option Op) → Passes
  follow go levels i ts zs q Plain rs = go levels (suc i) zs q rs
  follow go levels i ts zs q Last rs = go levels (suc i) zs q rs
  follow go levels i ts zs q (Joins n) rs = go levels (suc i) zs q rs
  follow go levels i ts zs q (Asks t a b) rs = test_by go levels i ts q t a b rs

  abbrev pub follow_of : Scanner → ℕ → ℕ → List Ty → Sort → Option Op → List (Option Op) → Passes
  follow_of go levels i ts q None rs = Ok tt
  follow_of go levels i ts q (Some op) rs = follow go levels i ts (grown ts (bound p fn ts op)) q (shape op) rs

  abbrev pub scan_by : Scanner → Scanner
  scan_by go levels i ts q [] = Ok tt
  scan_by go levels i ts q (r ∷ rs) = settled (judge levels (length rs) q ts r) k i >>= λ _. follow_of go levels i ts q r rs

  -- with fuel, of which one more than the number of records is enough
  abbrev pub scan : ℕ → Scanner
  scan zero levels i ts q rs = Ok tt
  scan (suc f) levels i ts q rs = scan_by (scan f) levels i ts q rs

  -- the record that comes next, if it is not refused
  abbrev pub judged_of : ℕ → ℕ → Sort → List Ty → ℕ → Option Op → Result Op Fault
  judged_of levels left q ts i None = Err (fault 20 (Record k i))
  judged_of levels left q ts i (Some op) = settled (judge levels left q ts (Some op)) k i >>= λ _. Ok op

abbrev pub ScanStands : Type 0
ScanStands = (p : Program) (fn : Function) (k f : ℕ) → length fn.records < f → read p fn k 0 (start p fn) fn.records ≡ scan p fn k f 7 0 fn.params InBody fn.records

-- the rules refuse with the numbers 20 to 28: a test's blocks never leave other slots in scope
abbrev pub NumbersStand : Type 0
NumbersStand = (p : Program) (e : Fault) → verdict p ≡ Err e → (20 ≤ e.number) × (e.number ≤ 28)
