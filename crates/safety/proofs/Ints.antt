-- The numbers of the records of a table that is read: an int is below 2^31.
use Rattle.std.proofs.Common.{◌≡◌, ℕ, ◌^◌, ◌<◌, ◌&&◌, eqb, ltb, List, [], ◌∷◌, length, get_or, take, drop, Some, None, Ok, Option, subst}
use Rattle.std.proofs.lemmas.Bool.{ltb-true, eqb-true, and_parts, cond_both}
use Rattle.table.specs.declared.records.Test.{Test}
use Rattle.table.specs.Records.{Op, New, Null, Int, Share, Own, Get, Take, Set, Add, Call, Fork, Return, Again, Join, Emit, Ask, pick, operand, slot_byte, number_of, form_of, fits, op_of, test_of, asked_by, decoded}
use Rattle.table.specs.Program.{Function, Program, program, function_total, function_at, record_total, record_at, record_place}
use Rattle.table.proofs.Each.{listing_all}
use Rattle.rules.specs.Rules.{no_function, callee}
use Rattle.rules.specs.Rules as R
use Rattle.rules.proofs.Formed.{opened}

abbrev pub Low : Op → Type 0
Low (Int z n) = n < 2 ^ 31
Low (New z s) = Unit {0}
Low (Null z s) = Unit {0}
Low (Share z x) = Unit {0}
Low (Own z x) = Unit {0}
Low (Get z x f) = Unit {0}
Low (Take z x f) = Unit {0}
Low (Set z x f y) = Unit {0}
Low (Add z x y) = Unit {0}
Low (Call z n args) = Unit {0}
Low (Fork n args) = Unit {0}
Low (Return x) = Unit {0}
Low (Again args) = Unit {0}
Low (Join n) = Unit {0}
Low (Emit x) = Unit {0}
Low (Ask t a b) = Unit {0}

abbrev pub LowRecord : Option Op → Type 0
LowRecord None = Unit {0}
LowRecord (Some op) = Low op

-- each entry of a table is low where it is the one that is picked
abbrev AllLow : ℕ → List (ℕ × Option Op) → Type 0
AllLow n [] = Unit {0}
AllLow n (q ∷ qs) = (n ≡ q.0 → LowRecord q.1) × AllLow n qs

pick_low : (n : ℕ) (qs : List (ℕ × Option Op)) → AllLow n qs → LowRecord (pick n qs None)
pick_low n [] h = tt
pick_low n (q ∷ qs) h = cond_both (eqb n q.0) q.1 (pick n qs None) LowRecord (λ e. h.0 (eqb-true n q.0 e)) (λ _. pick_low n qs h.1)

op_low : (b : List ℕ) → number_of b < (form_of (get_or b 0 0)).limit → LowRecord (op_of b)
op_low b h = pick_low (get_or b 0 0) (
    (1, Some (New (slot_byte b) (operand b 0)))
    ∷ (2, Some (Null (slot_byte b) (operand b 0)))
    ∷ (3, Some (Int (slot_byte b) (number_of b)))
    ∷ (4, Some (Share (slot_byte b) (operand b 0)))
    ∷ (5, Some (Own (slot_byte b) (operand b 0)))
    ∷ (6, Some (Get (slot_byte b) (operand b 0) (operand b 1)))
    ∷ (7, Some (Take (slot_byte b) (operand b 0) (operand b 1)))
    ∷ (8, Some (Set (slot_byte b) (operand b 0) (operand b 1) (operand b 2)))
    ∷ (9, Some (Add (slot_byte b) (operand b 0) (operand b 1)))
    ∷ (10, Some (Call (slot_byte b) (operand b 0) (take 5 (drop 3 b))))
    ∷ (11, Some (Fork (operand b 0) (take 5 (drop 3 b))))
    ∷ (12, Some (Return (operand b 0)))
    ∷ (13, Some (Again (take 6 (drop 2 b))))
    ∷ (14, Some (Join (number_of b)))
    ∷ (15, Some (Emit (operand b 0)))
    ∷ []) (λ _. tt, (λ _. tt, (λ e. subst (λ (k : ℕ). number_of b < (form_of k).limit) e h, (λ _. tt, (λ _. tt, (λ _. tt, (λ _. tt, (λ _. tt, (λ _. tt, (λ _. tt, (λ _. tt, (λ _. tt, (λ _. tt, (λ _. tt, (λ _. tt, tt)))))))))))))))

asked_low : (n : ℕ) (o : Option Test) → LowRecord (asked_by n o)
asked_low n None = tt
asked_low n (Some t) = tt

decoded_low : (b : List ℕ) → LowRecord (decoded b)
decoded_low b =
    cond_both (eqb (length b) 12 && fits (form_of (get_or b 0 0)) (slot_byte b) (take 6 (drop 2 b)) (number_of b)) _ None LowRecord
    (λ e. cond_both (ltb (get_or b 0 0) 16) (op_of b) (asked_by (number_of b) (test_of b)) LowRecord
    (λ _. op_low b (ltb-true _ _ (and_parts _ _ (and_parts _ _ (and_parts _ _ e).1).0).0)) (λ _. asked_low (number_of b) (test_of b)))
    (λ _. tt)

-- every record of a table
abbrev pub LowProgram : Program → Type 0
LowProgram p = (n i : ℕ) → LowRecord (R.record_at (callee p n) i)

pub program_low : (b : List ℕ) (p : Program) → program b ≡ Ok p → LowProgram p
program_low b p h = subst LowProgram (opened b p h).1
    (listing_all (λ (fn : Function). (i : ℕ) → LowRecord (R.record_at fn i)) no_function (function_total b) (function_at b)
    (λ n _. listing_all LowRecord None (record_total b n) (record_at b n) (λ i _. decoded_low (take 12 (drop (record_place b n i) b))) tt) (λ i. tt))
