-- The tests: what each asks, whether it halts, what it answers, and what a yes leaves.
use Rattle.std.specs.Prelude.{ℕ, Bool, true, false, ◌&&◌, ◌||◌, List, [], ◌∷◌, ◌==◌, nat_lt, slice_set}
use Rattle.table.specs.declared.records.Test.{Test}
use Rattle.table.specs.declared.records.Test.TheVariants.{Nil, Same, Equal, Less, Link, Unlink, Swap, Try, Fix, Stable}
use Rattle.table.specs.Program.{Program}
use Rattle.rules.specs.Rules.{Premise}
use Rattle.memory.specs.Model.{Store, matching}
use Rattle.machine.specs.declared.threads.Slot.{Slot}
use Rattle.machine.specs.Values.{is_null, holds_number, is_reference, word_of, left, at, given}
use Rattle.machine.specs.Reading.{field_type, cell, write, slot_has_object, has_field, refers}

-- what is asked, in the order of the numbers; the words that the memory is asked with; the slots and the memory after a yes
pub record Trial : Type 0 where
  pub asks : List Premise
  pub halts : Bool
  pub words : List ℕ
  pub says : Bool
  pub slots : List Slot
  pub memory : Store

-- a thread's slots, over a program and a memory
module _ (p : Program) (m : Store) (vs : List Slot) where
  -- a test that alters nothing
  abbrev pub looks : List Premise → Bool → Trial
  looks asks says = record { asks = asks; halts = false; words = []; says = says; slots = vs; memory = m }

  -- two operands of one sort
  abbrev pub compares : (Slot → Bool) → ℕ → ℕ → Bool → Trial
  compares sort x y says = looks ((71, given vs x && given vs y) ∷ (72, sort (at vs x) && sort (at vs y)) ∷ []) says

  -- a test on the field x.f: 71 operands, 72 number or reference, 73 fields, 74 objects; a null x halts
  abbrev pub field_asks : Bool → Bool → ℕ → ℕ → List Premise
  field_asks there kinds x f =
      (71, there)
      ∷ (72, kinds && refers p m (at vs x) f)
      ∷ (73, has_field p m (at vs x) f)
      ∷ (74, slot_has_object p m (at vs x))
      ∷ []

  -- and on y.g too; a null y halts as well
  abbrev pub fields_ask : ℕ → ℕ → ℕ → ℕ → List Premise
  fields_ask x f y g =
      (71, given vs x && given vs y)
      ∷ (72, is_reference (at vs x) && is_reference (at vs y) && refers p m (at vs x) f && refers p m (at vs y) g)
      ∷ (73, has_field p m (at vs x) f && has_field p m (at vs y) g)
      ∷ (74, slot_has_object p m (at vs x) && slot_has_object p m (at vs y))
      ∷ []

  -- an exchange of x.f: yes where it is unmarked and holds this word, and then it holds another one, with a mark or not
  abbrev pub exchanges : List Premise → Bool → ℕ → ℕ → ℕ → ℕ → Bool → List Slot → Trial
  exchanges asks halts x f expected new mark ws = record {
    asks = asks;
    halts = halts;
    words = expected ∷ new ∷ [];
    says = matching (cell p m (at vs x) f) expected;
    slots = ws;
    memory = write p m (at vs x) f new mark;
  }

  -- the value of y goes to x.f
  abbrev pub spent_into : ℕ → ℕ → ℕ → List Slot
  spent_into x f y = slice_set vs y (left (field_type p m (at vs x) f) (at vs y))

  abbrev pub two_references : ℕ → ℕ → ℕ → List Premise
  two_references x f y = field_asks (given vs x && given vs y) (is_reference (at vs x) && is_reference (at vs y)) x f

  abbrev pub trial : Test → Trial
  trial (Nil x) = looks ((71, given vs x) ∷ (72, is_reference (at vs x)) ∷ []) (is_null (at vs x))
  trial (Same x y) = compares is_reference x y (word_of (at vs x) == word_of (at vs y))
  trial (Equal x y) = compares holds_number x y (word_of (at vs x) == word_of (at vs y))
  trial (Less x y) = compares holds_number x y (nat_lt (word_of (at vs x)) (word_of (at vs y)))
  -- from y.g's word to y, and y is spent
  trial (Link x f y g) =
      exchanges (fields_ask x f y g) (is_null (at vs x) || is_null (at vs y)) x f (cell p m (at vs y) g).word (word_of (at vs y)) false (spent_into x f y)
  -- from y to y.g's word
  trial (Unlink x f y g) =
      exchanges (fields_ask x f y g) (is_null (at vs x) || is_null (at vs y)) x f (word_of (at vs y)) (cell p m (at vs y) g).word false vs
  -- from y to w, and w is spent
  trial (Swap x f y w) =
      exchanges (field_asks (given vs x && given vs y && given vs w) (is_reference (at vs x) && is_reference (at vs y) && is_reference (at vs w)) x f)
      (is_null (at vs x)) x f (word_of (at vs y)) (word_of (at vs w)) false (spent_into x f w)
  -- from whatever word is there to y with a mark, and y is spent
  trial (Try x f y) = exchanges (two_references x f y) (is_null (at vs x)) x f (cell p m (at vs x) f).word (word_of (at vs y)) true (spent_into x f y)
  -- from y to y with a mark
  trial (Fix x f y) = exchanges (two_references x f y) (is_null (at vs x)) x f (word_of (at vs y)) (word_of (at vs y)) true vs
  trial (Stable x f) = record {
    asks = field_asks (given vs x) (is_reference (at vs x)) x f;
    halts = is_null (at vs x);
    words = [];
    says = (cell p m (at vs x) f).mark;
    slots = vs;
    memory = m;
  }
