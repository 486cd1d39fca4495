-- A body is read once, record by record: the types in scope, the open blocks, and the verdict.
use Rattle.std.specs.Prelude.{ℕ, zero, suc, ◌+◌, Bool, true, false, cond, not, ◌&&◌, ◌||◌, List, [], ◌∷◌, ◌++◌, length, Some, None, Ok, Err, Option, ◌==◌, nat_le, nat_lt}
use Rattle.table.specs.declared.fault.Place.TheVariants.{Record}
use Rattle.table.specs.declared.types.Ty.{Ty}
use Rattle.table.specs.declared.records.Test.{Test}
use Rattle.table.specs.Faults.{fault, ◌>>=◌, Passes}
use Rattle.table.specs.Records.{Op, New, Null, Int, Share, Own, Get, Take, Set, Add, Call, Fork, Return, Again, Join, Emit, Ask}
use Rattle.table.specs.Program.{Function, Program, program}
use Rattle.rules.specs.Rules.{Premise, first, premises, bound, yes_types}

-- an open block: the count of the no block behind it, its end, and the types that come back when it ends
pub data Block : Type 0 where
  Yes : (count end : ℕ) (saved : List Ty) → Block
  No : (end : ℕ) (saved : List Ty) → Block

-- the innermost block stands first; with no block open the record stands in the body
pub record State : Type 0 where
  pub types : List Ty
  pub blocks : List Block

abbrev pub state : List Ty → List Block → State
state ts bs = record { types = ts; blocks = bs }

abbrev pub end : Block → ℕ
end (Yes k e s) = e
end (No e s) = e

-- where the no block ends as well
abbrev pub reach : Block → ℕ
reach (Yes k e s) = e + k
reach (No e s) = e

abbrev pub saved : Block → List Ty
saved (Yes k e s) = s
saved (No e s) = s

-- where the innermost block ends, in a body of this size
abbrev pub end_of : ℕ → List Block → ℕ
end_of size [] = size
end_of size (b ∷ bs) = end b

-- how many slots come back when it ends
abbrev pub depth : List Block → ℕ
depth [] = 0
depth (b ∷ bs) = length (saved b)

abbrev pub in_no : List Block → Bool
in_no [] = false
in_no (Yes k e s ∷ bs) = false
in_no (No e s ∷ bs) = true

-- a yes block whose no block has this count
abbrev pub in_yes : ℕ → List Block → Bool
in_yes n [] = false
in_yes n (Yes k e s ∷ bs) = n == k
in_yes n (No e s ∷ bs) = false

-- the blocks that end at record n: a yes block opens its no block there, and any other leads on behind
abbrev pub close : ℕ → List Ty → List Block → State
close n ts [] = state ts []
close n ts (Yes k e s ∷ bs) = cond (e == n) (cond (k == 0) (close n s bs) (state s (No (n + k) s ∷ bs))) (state ts (Yes k e s ∷ bs))
close n ts (No e s ∷ bs) = cond (e == n) (close n s bs) (state ts (No e s ∷ bs))

-- what a record is to the blocks
pub data Shape : Type 0 where
  Plain Last : Shape
  Joins : (count : ℕ) → Shape
  Asks : (test : Test) (yes_count no_count : ℕ) → Shape

abbrev pub shape : Op → Shape
shape (New z s) = Plain
shape (Null z s) = Plain
shape (Int z n) = Plain
shape (Share z x) = Plain
shape (Own z x) = Plain
shape (Get z x f) = Plain
shape (Take z x f) = Plain
shape (Set z x f y) = Plain
shape (Add z x y) = Plain
shape (Call z n args) = Plain
shape (Fork n args) = Plain
shape (Return x) = Last
shape (Again args) = Last
shape (Join n) = Joins n
shape (Emit x) = Plain
shape (Ask t a b) = Asks t a b

-- a test and its blocks stay in their block, and reach the end of a no block alone
abbrev pub inside : ℕ → ℕ → List Block → Bool
inside size n bs = cond (in_no bs) (nat_le n (end_of size bs)) (nat_lt n (end_of size bs))

-- record i of a body of this size stands where it may; bodies are level 1, and level 8 is the deepest
abbrev pub placed : ℕ → ℕ → List Block → Shape → Bool
placed size i bs Plain = not (suc i == end_of size bs) || in_no bs
placed size i bs Last = suc i == end_of size bs
placed size i bs (Joins n) = suc i == end_of size bs && in_yes n bs
placed size i bs (Asks t a b) = not (a == 0) && inside size (suc i + a + b) bs && nat_lt (length bs) 7

abbrev pub grown : List Ty → Option Ty → List Ty
grown ts None = ts
grown ts (Some t) = ts ++ (t ∷ [])

-- the state behind record i, of its shape; us are the types in a test's yes block, and ts those behind any other record
abbrev pub move : ℕ → State → List Ty → (Test → List Ty) → Shape → State
move i S ts us Plain = close (suc i) ts S.blocks
move i S ts us Last = close (suc i) ts S.blocks
move i S ts us (Joins n) = close (suc i) ts S.blocks
move i S ts us (Asks t a b) = state (us t) (Yes b (suc i + a) S.types ∷ S.blocks)

-- a refusal names function k and record i
abbrev pub settled : Option ℕ → ℕ → ℕ → Passes
settled None k i = Ok tt
settled (Some n) k i = Err (fault n (Record k i))

module _ (p : Program) (fn : Function) where
  -- its place in the blocks; and the slots from before a test are still in scope in its blocks (they always are)
  abbrev pub placing : ℕ → State → Op → List Premise
  placing i S op = (28, placed (length fn.records) i S.blocks (shape op)) ∷ (29, nat_le (depth S.blocks) (length S.types)) ∷ []

  -- all that is asked of a record that says something, in reading order
  abbrev pub asked : ℕ → State → Op → List Premise
  asked i S op = premises p fn S.types op ++ placing i S op

  -- the number that record i is refused with in a state
  abbrev pub refusal : ℕ → State → Option Op → Option ℕ
  refusal i S None = Some 20
  refusal i S (Some op) = first (asked i S op)

  -- the state behind record i
  abbrev pub after : ℕ → State → Option Op → State
  after i S None = S
  after i S (Some op) = move i S (grown S.types (bound p fn S.types op)) (yes_types p fn S.types) (shape op)

  -- the state before the record that is m records on
  abbrev pub walk : ℕ → State → List (Option Op) → ℕ → State
  walk i S rs zero = S
  walk i S [] (suc m) = S
  walk i S (r ∷ rs) (suc m) = walk (suc i) (after i S r) rs m

  -- the first bad record of function k, from record i on
  abbrev pub read : ℕ → ℕ → State → List (Option Op) → Passes
  read k i S [] = Ok tt
  read k i S (r ∷ rs) = settled (refusal i S r) k i >>= λ _. read k (suc i) (after i S r) rs

  -- parameters are slots 0 upward
  abbrev pub start : State
  start = state fn.params []

  -- the state before record i
  abbrev pub before : ℕ → State
  before i = walk 0 start fn.records i

abbrev pub bodies : Program → ℕ → List Function → Passes
bodies p k [] = Ok tt
bodies p k (fn ∷ fns) = read p fn k 0 (start p fn) fn.records >>= λ _. bodies p (suc k) fns

-- the verdict on a program, and on a table
abbrev pub verdict : Program → Passes
verdict p = bodies p 0 p.functions

abbrev pub judged : List ℕ → Passes
judged b = program b >>= verdict
