-- Records, taken apart by their ops.
use Rattle.std.specs.Prelude.{ℕ, ◌+◌, ◌*◌, ◌/◌, ◌%◌, ◌^◌, Bool, true, false, cond, ◌&&◌, ◌||◌, List, [], ◌∷◌, length, take, drop, Some, None, Option, ◌==◌, nat_lt, slice_index, slice_index_or}
use Rattle.std.specs.List.{list_all}
use Rattle.table.specs.declared.records.Test.{Test}
use Rattle.table.specs.declared.records.Test.TheVariants.{Nil, Same, Equal, Less, Link, Unlink, Swap, Try, Fix, Stable}
use Rattle.table.specs.declared.records.Record.{Record}
use Rattle.table.specs.declared.records.Record.TheVariants as coded
use Rattle.table.specs.declared.forms.Form.{Form}

-- z is the slot that a record binds, s a struct, n a function; a call holds its operand bytes behind n, and `again` all six
pub data Op : Type 0 where
  New : (z s : ℕ) → Op
  Null : (z s : ℕ) → Op
  Int : (z number : ℕ) → Op
  Share : (z x : ℕ) → Op
  Own : (z x : ℕ) → Op
  Get : (z x f : ℕ) → Op
  Take : (z x f : ℕ) → Op
  Set : (z x f y : ℕ) → Op
  Add : (z x y : ℕ) → Op
  Call : (z n : ℕ) (args : List ℕ) → Op
  Fork : (n : ℕ) (args : List ℕ) → Op
  Return : (x : ℕ) → Op
  Again : (args : List ℕ) → Op
  Join : (number : ℕ) → Op
  Emit : (x : ℕ) → Op
  Ask : (test : Test) (yes_count no_count : ℕ) → Op

-- what a record of the code says: its argument bytes for the part of the table that it holds
abbrev pub meant : Record → Op
meant (coded.New z s) = New z s
meant (coded.Null z s) = Null z s
meant (coded.Int z n) = Int z n
meant (coded.Share z x) = Share z x
meant (coded.Own z x) = Own z x
meant (coded.Get z x f) = Get z x f
meant (coded.Take z x f) = Take z x f
meant (coded.Set z x f y) = Set z x f y
meant (coded.Add z x y) = Add z x y
meant (coded.Call z n args) = Call z n args.now
meant (coded.Fork n args) = Fork n args.now
meant (coded.Return x) = Return x
meant (coded.Again args) = Again args.now
meant (coded.Join n) = Join n
meant (coded.Emit x) = Emit x
meant (coded.Ask t a b) = Ask t a b

abbrev pub meant_by : Option Record → Option Op
meant_by None = None
meant_by (Some r) = Some (meant r)

-- A record has twelve bytes: an op, a slot byte, six operand bytes, and a number of 32 bits, low byte first.
abbrev pub slot_byte : List ℕ → ℕ
slot_byte b = slice_index b 1

abbrev pub operand : List ℕ → ℕ → ℕ
operand b i = slice_index b (2 + i)

abbrev pub number_of : List ℕ → ℕ
number_of b = slice_index b 8 + 256 * slice_index b 9 + 65536 * slice_index b 10 + 16777216 * slice_index b 11

-- no record fits where there is no op
abbrev pub no_op : Form
no_op = record { binds = false; operands = 0; limit = 0 }

-- what an op uses of a record: whether it binds a slot, how many operand bytes it reads, below what its number stays
abbrev pub binding : ℕ → Form
binding n = record { binds = true; operands = n; limit = 1 }

abbrev pub silent : ℕ → Form
silent n = record { binds = false; operands = n; limit = 1 }

-- a test's number is its two counts
abbrev pub asking : ℕ → Form
asking n = record { binds = false; operands = n; limit = 2 ^ 32 }

-- the forms of the ops, from 0 on: there is no op 0
abbrev pub forms : List Form
forms =
    no_op
    ∷ binding 1 ∷ binding 1 ∷ record { binds = true; operands = 0; limit = 2 ^ 31 }
    ∷ binding 1 ∷ binding 1 ∷ binding 2 ∷ binding 2 ∷ binding 3 ∷ binding 2
    ∷ binding 6 ∷ silent 6 ∷ silent 1 ∷ silent 6 ∷ record { binds = false; operands = 0; limit = 2 ^ 32 } ∷ silent 1
    ∷ asking 1 ∷ asking 2 ∷ asking 2 ∷ asking 2
    ∷ asking 4 ∷ asking 4 ∷ asking 4 ∷ asking 3 ∷ asking 3 ∷ asking 2
    ∷ []

abbrev pub form_of : ℕ → Form
form_of op = slice_index_or forms op no_op

abbrev pub zeros : List ℕ → Bool
zeros = list_all (λ x. x == 0)

-- unused bytes are 0
abbrev pub fits : Form → ℕ → List ℕ → ℕ → Bool
fits f slot operands number = nat_lt number f.limit && (f.binds || slot == 0) && zeros (drop f.operands operands)

-- the entry under a number
abbrev pub pick : {X : Type 0} → ℕ → List (ℕ × X) → X → X
pick n [] other = other
pick n (q ∷ qs) other = cond (n == q.0) q.1 (pick n qs other)

-- the tests by their ops
abbrev pub test_of : List ℕ → Option Test
test_of b =
    let x = operand b 0 in
    pick (slice_index b 0) (
    (16, Some (Nil x))
    ∷ (17, Some (Same x (operand b 1)))
    ∷ (18, Some (Equal x (operand b 1)))
    ∷ (19, Some (Less x (operand b 1)))
    ∷ (20, Some (Link x (operand b 1) (operand b 2) (operand b 3)))
    ∷ (21, Some (Unlink x (operand b 1) (operand b 2) (operand b 3)))
    ∷ (22, Some (Swap x (operand b 1) (operand b 2) (operand b 3)))
    ∷ (23, Some (Try x (operand b 1) (operand b 2)))
    ∷ (24, Some (Fix x (operand b 1) (operand b 2)))
    ∷ (25, Some (Stable x (operand b 1)))
    ∷ []) None

-- the low 16 bits of a test's number count its yes block's records, the high 16 its no block's
abbrev pub asked_by : ℕ → Option Test → Option Op
asked_by number None = None
asked_by number (Some t) = Some (Ask t (number % 65536) (number / 65536))

-- the other ops
abbrev pub op_of : List ℕ → Option Op
op_of b =
    let z = slot_byte b in
    let x = operand b 0 in
    pick (slice_index b 0) (
    (1, Some (New z x))
    ∷ (2, Some (Null z x))
    ∷ (3, Some (Int z (number_of b)))
    ∷ (4, Some (Share z x))
    ∷ (5, Some (Own z x))
    ∷ (6, Some (Get z x (operand b 1)))
    ∷ (7, Some (Take z x (operand b 1)))
    ∷ (8, Some (Set z x (operand b 1) (operand b 2)))
    ∷ (9, Some (Add z x (operand b 1)))
    ∷ (10, Some (Call z x (take 5 (drop 3 b))))
    ∷ (11, Some (Fork x (take 5 (drop 3 b))))
    ∷ (12, Some (Return x))
    ∷ (13, Some (Again (take 6 (drop 2 b))))
    ∷ (14, Some (Join (number_of b)))
    ∷ (15, Some (Emit x))
    ∷ []) None

-- what twelve bytes say, or `None`: no such op, an unused byte that is not 0, or a number too large
abbrev pub decoded : List ℕ → Option Op
decoded b =
    cond (length b == 12 && fits (form_of (slice_index b 0)) (slot_byte b) (take 6 (drop 2 b)) (number_of b))
    (cond (nat_lt (slice_index b 0) 16) (op_of b) (asked_by (number_of b) (test_of b)))
    None
