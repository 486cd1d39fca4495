-- What a list of calls leaves in a memory, and what holds of every such list.
use Rattle.std.specs.Prelude.{◌≡◌, ℕ, ◌+◌, ◌-◌, ◌^◌, ◌<◌, ◌≤◌, Bool, true, false, cond, ◌&&◌, ◌||◌, List, [], ◌∷◌, ◌++◌, map, length, take, Ok, Err, Result, ◌==◌, nat_le, slice_index_or}
use Rattle.table.specs.declared.fault.Fault.{Fault}
use Rattle.memory.specs.declared.object.Object.{Object}
use Rattle.memory.specs.declared.replay.Call.{Call}
use Rattle.memory.specs.declared.replay.Call.TheVariants.{Add, Store as Put, Exchange}
use Rattle.memory.specs.Model.{Store, count_of, object_at, cell_at, add_of, after_add, store_of, after_store, exchange_of, after_exchange}

abbrev pub accepted : {A : Type 0} → Result A Fault → Bool
accepted (Ok x) = true
accepted (Err e) = false

-- whether a call is not refused, and what it leaves
abbrev pub call_of : Store → Call → Bool
call_of m (Add k) = accepted (add_of m k)
call_of m (Put o c w) = accepted (store_of m o c w)
call_of m (Exchange o c e w k) = accepted (exchange_of m o c e w)

abbrev pub after_call : Store → Call → Store
after_call m (Add k) = after_add m k
after_call m (Put o c w) = after_store m o c w
after_call m (Exchange o c e w k) = after_exchange m o c e w k

-- how many calls of a list are not refused, and what the list leaves
abbrev pub accepted_of : Store → List Call → ℕ
accepted_of m [] = 0
accepted_of m (x ∷ xs) = cond (call_of m x) 1 0 + accepted_of (after_call m x) xs

abbrev pub after_calls : Store → List Call → Store
after_calls m [] = m
after_calls m (x ∷ xs) = after_calls (after_call m x) xs

-- the structs of the objects, by number
abbrev pub kinds_in : Store → List ℕ
kinds_in m = map (λ (x : Object). x.kind) m.objects

-- the structs that a call asks an object of, and those that a list asks, in order
abbrev pub asked_by : Call → List ℕ
asked_by (Add k) = cond (nat_le k 15) (k ∷ []) []
asked_by (Put o c w) = []
asked_by (Exchange o c e w k) = []

abbrev pub asked : List Call → List ℕ
asked [] = []
asked (x ∷ xs) = asked_by x ++ asked xs

-- whether a store names the cell c of the object o
abbrev pub stores_to : ℕ → ℕ → Call → Bool
stores_to o c (Add k) = false
stores_to o c (Put p d w) = o == p && c == d
stores_to o c (Exchange p d e w k) = false

-- whether a store or an exchange does
abbrev pub names : ℕ → ℕ → Call → Bool
names o c (Add k) = false
names o c (Put p d w) = o == p && c == d
names o c (Exchange p d e w k) = o == p && c == d

abbrev pub any_of : (Call → Bool) → List Call → Bool
any_of p [] = false
any_of p (x ∷ xs) = p x || any_of p xs

-- a struct number, and eight cells with words below 2^31
pub record Whole (x : Object) : Type 0 where
  pub struct : x.kind ≤ 15
  pub eight : length x.cells ≡ 8
  pub words : (c : ℕ) → (slice_index_or x.cells c (record { word = 0; mark = false })).word < 2 ^ 31

-- What a list of calls made of a memory m keeps, n being what is left.
pub record Keeps (m n : Store) (xs : List Call) : Type 0 where
  -- nothing changes the capacity
  pub room : n.capacity ≡ m.capacity
  -- objects stay with their structs, and new ones are numbered in order, until the memory is full
  pub kinds : kinds_in n ≡ kinds_in m ++ take (m.capacity - count_of m) (asked xs)
  -- only a call that names a cell changes it
  pub cells : (o c : ℕ) → any_of (names o c) xs ≡ false → cell_at n o c ≡ cell_at m o c
  -- exchanges alone never change a marked cell
  pub marked : (o c : ℕ) → (cell_at m o c).mark ≡ true → any_of (stores_to o c) xs ≡ false → cell_at n o c ≡ cell_at m o c
  -- whole objects stay whole, and those added are
  pub whole : ((o : ℕ) → o < count_of m → Whole (object_at m o)) → (o : ℕ) → o < count_of n → Whole (object_at n o)
