-- Every word is below 2^31, and the memory refuses nothing: by op, with no rules.
use Rattle.std.proofs.Common.{◌≡◌, ℕ, zero, suc, ◌+◌, ◌-◌, ◌%◌, ◌^◌, ◌<◌, ◌≤◌, Bool, true, false, cond, ◌&&◌, ◌||◌, ltb, leb, List, [], ◌∷◌, length, get_or, take, set, replicate, Some, None, Ok, Err, Option, Result, refl, subst, mod-lt, arith}
use mathlib.Core.Path.{subst⁻¹}
use Rattle.std.proofs.lemmas.List.{length-set, length_push}
use Rattle.std.proofs.lemmas.Bool.{ltb-true, lt-ltb, leb-true, and_parts, and_from, cond_both}
use Rattle.table.specs.declared.types.Ty.{Ty}
use Rattle.table.specs.Program.{Program}
use Rattle.table.specs.Types.{is_number, is_owned, is_pristine}
use Rattle.table.specs.declared.records.Test.{Test}
use Rattle.table.specs.declared.records.Test.TheVariants.{Nil, Same, Equal, Less, Link, Unlink, Swap, Try, Fix, Stable}
use Rattle.table.specs.Records.{Op, New, Null, Int, Share, Own, Get, Take, Set, Add, Call, Fork, Return, Again, Join, Emit, Ask}
use Rattle.table.specs.declared.fault.Fault.{Fault}
use Rattle.rules.specs.Rules.{Premise, first, callee, record_at}
use Rattle.memory.specs.declared.object.Cell.{Cell}
use Rattle.memory.specs.declared.object.Object.{Object}
use Rattle.memory.specs.Model.{Store, plain, object_at, count_of, with_object, is_word}
use Rattle.machine.specs.declared.threads.Slot.{Slot}
use Rattle.machine.specs.declared.threads.Slot.TheVariants as V
use Rattle.machine.specs.Values.{reference_of, word_of, object_of, left, value_of, leaving, passing}
use Rattle.machine.specs.declared.threads.Frame.{Frame}
use Rattle.machine.specs.World.{no_frame, Task, World, no_task, op_at, task, is_running, starting, main_frame, in_table}
use Rattle.machine.specs.declared.threads.Status.TheVariants.{Running}
use Rattle.machine.specs.Ways.{standing, Change, newest, waiting, slots, value, way, moved, go, opened, returned, call_slot}
use Rattle.machine.specs.Steps.{Turn, Fails, Does, room_for, unless, taking, joined, commit, stepped, after_step, Taken, step_fault, all_words}
use Rattle.machine.specs.Reading.{cell, field_type}
use Rattle.machine.specs.Tests.{trial}
use Rattle.safety.specs.Runs.{runs}
use Rattle.safety.specs.Words.{SmallSlots, SmallFrames, SmallMemory, Small, WordsStand}
use Rattle.safety.proofs.Images.{stored}
use Rattle.safety.proofs.Chains.{set_all, push_all}
use Rattle.safety.proofs.Ints.{Low, LowRecord, LowProgram, program_low}
use Rattle.safety.proofs.Tables.{started_is}

-- lists
take_all : {X : Type 0} (P : X → Type 0) (n : ℕ) (xs : List X) (d : X) → P d → ((a : ℕ) → P (get_or xs a d)) → (a : ℕ) → P (get_or (take n xs) a d)
take_all P zero xs d h k a = h
take_all P (suc n) [] d h k a = h
take_all P (suc n) (x ∷ xs) d h k zero = k zero
take_all P (suc n) (x ∷ xs) d h k (suc a) = take_all P n xs d h (λ b. k (suc b)) a

rep_all : {X : Type 0} (P : X → Type 0) (n : ℕ) (d : X) → P d → (a : ℕ) → P (get_or (replicate n d) a d)
rep_all P zero d h a = h
rep_all P (suc n) d h zero = h
rep_all P (suc n) d h (suc a) = rep_all P n d h a

abbrev SmallV : Slot → Type 0
SmallV v = word_of v < 2 ^ 31

abbrev SmallO : Object → Type 0
SmallO o = (f : ℕ) → (get_or o.cells f (plain 0)).word < 2 ^ 31

set_slots : (vs : List Slot) (z : ℕ) (v : Slot) → SmallSlots vs → SmallV v → SmallSlots (set vs z v)
set_slots vs z v h k = set_all SmallV vs z v V.Empty k h

left_small : (t : Ty) (v : Slot) → SmallV v → SmallV (left t v)
left_small t v h = cond_both (is_owned t.kind || is_pristine t.kind) V.Null v SmallV (λ _. omega arith) (λ _. h)

ref_small : (n : ℕ) → n < 2 ^ 31 → SmallV (reference_of n)
ref_small zero h = h
ref_small (suc n) h = h

value_small : (t : Ty) (n : ℕ) → n < 2 ^ 31 → SmallV (value_of t n)
value_small t n h = cond_both (is_number t.kind) (V.Number n) (reference_of n) SmallV (λ _. h) (λ _. ref_small n h)

leaving_small : (vs : List Slot) (xs : List ℕ) (ts : List Ty) → SmallSlots vs → SmallSlots (leaving vs xs ts)
leaving_small vs xs [] h = h
leaving_small vs [] (t ∷ ts) h = h
leaving_small vs (x ∷ xs) (t ∷ ts) h = leaving_small (set vs x (left t (get_or vs x V.Empty))) xs ts (set_slots vs x (left t (get_or vs x V.Empty)) h (left_small t (get_or vs x V.Empty) (h x)))

passing_small : (vs : List Slot) (xs : List ℕ) (ts : List Ty) (n : ℕ) → SmallSlots vs → SmallSlots (passing vs xs ts n)
passing_small vs xs [] n h k = rep_all SmallV n V.Empty (omega arith) k
passing_small vs [] (t ∷ ts) n h k = rep_all SmallV n V.Empty (omega arith) k
passing_small vs (x ∷ xs) (t ∷ ts) n h zero = h x
passing_small vs (x ∷ xs) (t ∷ ts) n h (suc k) = passing_small vs xs ts (n - 1) h k

-- memory
stored_small : (m : Store) (o f n : ℕ) (k : Bool) → SmallMemory m → n < 2 ^ 31 → SmallMemory (stored m o f n k)
stored_small m o f n k h l = record {
  words = set_all SmallO m.objects o (record { kind = (object_at m o).kind; cells = set (object_at m o).cells f (record { word = n; mark = k }) }) (record { kind = 0; cells = [] })
      (set_all (λ (c : Cell). c.word < 2 ^ 31) (object_at m o).cells f (record { word = n; mark = k }) (plain 0) l (h.words o)) h.words;
  sized = record { fits = (let a = length-set m.objects o (record { kind = (object_at m o).kind; cells = set (object_at m o).cells f (record { word = n; mark = k }) }) in let b = h.sized.fits in omega arith); most = h.sized.most };
}

added_small : (m : Store) (s : ℕ) → SmallMemory m → count_of m < m.capacity → SmallMemory (with_object m s)
added_small m s h l = record {
  words = push_all SmallO m.objects (record { kind = s; cells = replicate 8 (plain 0) }) (record { kind = 0; cells = [] }) (rep_all (λ (c : Cell). c.word < 2 ^ 31) 8 (plain 0) (omega arith)) h.words;
  sized = record { fits = (let a = length_push m.objects (record { kind = s; cells = replicate 8 (plain 0) }) in omega arith); most = h.sized.most };
}

-- the record that a frame stands before
op_low : (p : Program) (F : Frame) → LowProgram p → LowRecord (op_at p F)
op_low p F h = cond_both (in_table p F) (record_at (callee p F.function) F.index) None LowRecord (λ _. h F.function F.index) (λ _. tt)

standing_low : (p : Program) (fs : List Frame) → LowProgram p → LowRecord (standing p fs)
standing_low p fs h = cond_both (ltb 0 (length fs)) (op_at p (newest fs)) None LowRecord (λ _. op_low p (newest fs) h) (λ _. tt)

-- numbers of refusals from 60 on
abbrev above : List Premise → Bool
above [] = true
above (q ∷ qs) = leb 60 q.0 && above qs

-- the frames of a change, its memory, and the frame that it forks
abbrev SmallFork : Option Frame → Type 0
SmallFork None = Unit {0}
SmallFork (Some F) = SmallSlots F.slots

record SmallChange (c : Change) : Type 0 where
  frames : SmallFrames c.frames
  memory : SmallMemory c.memory
  forked : SmallFork c.forked

-- a turn is not refused by the memory, and leaves small words
abbrev SmallTurn : Turn → Type 0
SmallTurn (Fails n) = 60 ≤ n
SmallTurn (Does c out) = SmallChange c

unless_above : (l : List Premise) (t : Turn) → above l ≡ true → SmallTurn t → SmallTurn (unless (first l) t)
unless_above [] t h k = k
unless_above (q ∷ qs) t h k =
    let a = and_parts (leb 60 q.0) (above qs) h in
    cond_both q.1 (first qs) (Some q.0) (λ o. SmallTurn (unless o t)) (λ _. unless_above qs t a.1 k) (λ _. leb-true 60 q.0 a.0)

asked : (b : Bool) (t : Turn) → b ≡ true → SmallTurn t → SmallTurn (unless (first ((51, b) ∷ [])) t)
asked b t h k = subst⁻¹ (λ (c : Bool). SmallTurn (unless (first ((51, c) ∷ [])) t)) h k

module _ (p : Program) (m : Store) (fs : List Frame) (hf : SmallFrames fs) (hm : SmallMemory m) where
  abbrev vs : List Slot
  vs = slots p m fs

  here : SmallSlots (slots p m fs)
  here = hf (length fs - 1)

  goes : (index : ℕ) (ws : List Slot) (n : Store) → SmallSlots ws → SmallMemory n → SmallChange (go p m fs index ws n)
  goes index ws n h k = record { frames = set_all (λ (F : Frame). SmallSlots F.slots) fs (length fs - 1) (record { function = (newest fs).function; index = index; slots = ws }) no_frame h hf; memory = k; forked = tt }

  cell_small : (v : Slot) (f : ℕ) → (cell p m v f).word < 2 ^ 31
  cell_small v f = hm.words (object_of v) f

  left_at : (x f y : ℕ) → SmallV (left (field_type p m (value p m fs x) f) (value p m fs y))
  left_at x f y = left_small (field_type p m (value p m fs x) f) (value p m fs y) (here y)

  got_at : (x f : ℕ) → SmallV (value_of (field_type p m (value p m fs x) f) (cell p m (value p m fs x) f).word)
  got_at x f = value_small (field_type p m (value p m fs x) f) (cell p m (value p m fs x) f).word (cell_small (value p m fs x) f)

  yes_small : (t : Test) → SmallChange (go p m fs (suc (newest fs).index) (trial p m vs t).slots (trial p m vs t).memory)
  yes_small (Nil x) = goes _ vs m here hm
  yes_small (Same x y) = goes _ vs m here hm
  yes_small (Equal x y) = goes _ vs m here hm
  yes_small (Less x y) = goes _ vs m here hm
  yes_small (Link x f y g) = goes _ _ _ (set_slots vs y _ here (left_at x f y)) (stored_small m _ f _ false hm (here y))
  yes_small (Unlink x f y g) = goes _ vs _ here (stored_small m _ f _ false hm (cell_small (value p m fs y) g))
  yes_small (Swap x f y w) = goes _ _ _ (set_slots vs w _ here (left_at x f w)) (stored_small m _ f _ false hm (here w))
  yes_small (Try x f y) = goes _ _ _ (set_slots vs y _ here (left_at x f y)) (stored_small m _ f _ true hm (here y))
  yes_small (Fix x f y) = goes _ vs _ here (stored_small m _ f _ true hm (here y))
  yes_small (Stable x f) = goes _ vs m here hm

  -- a test is refused from 71 on, and asks the memory with small words
  fits_word : (n : ℕ) → n < 2 ^ 31 → is_word n ≡ true
  fits_word n h = lt-ltb n (2 ^ 31) h

  two_words : (a b : ℕ) → a < 2 ^ 31 → b < 2 ^ 31 → all_words (a ∷ b ∷ []) ≡ true
  two_words a b h k = and_from _ _ (fits_word a h) (and_from _ _ (fits_word b k) refl)

  test_asks : (t : Test) → (above (trial p m vs t).asks ≡ true) × (all_words (trial p m vs t).words ≡ true)
  test_asks (Nil x) = (refl, refl)
  test_asks (Same x y) = (refl, refl)
  test_asks (Equal x y) = (refl, refl)
  test_asks (Less x y) = (refl, refl)
  test_asks (Link x f y g) = (refl, two_words _ _ (cell_small (value p m fs y) g) (here y))
  test_asks (Unlink x f y g) = (refl, two_words _ _ (here y) (cell_small (value p m fs y) g))
  test_asks (Swap x f y w) = (refl, two_words _ _ (here y) (here w))
  test_asks (Try x f y) = (refl, two_words _ _ (cell_small (value p m fs x) f) (here y))
  test_asks (Fix x f y) = (refl, two_words _ _ (here y) (here y))
  test_asks (Stable x f) = (refl, refl)

  returns : (x d : ℕ) → SmallChange (returned p m fs x d)
  returns x zero = record { frames = λ j k. omega arith; memory = hm; forked = tt }
  returns x (suc zero) = record { frames = λ j k. omega arith; memory = hm; forked = tt }
  returns x (suc (suc d)) = record {
    frames = set_all (λ (F : Frame). SmallSlots F.slots) (take (suc d) fs) d _ no_frame (set_slots (waiting fs).slots (call_slot (op_at p (waiting fs))) (value p m fs x) (hf (length fs - 2)) (here x))
        (take_all (λ (F : Frame). SmallSlots F.slots) (suc d) fs no_frame (λ k. omega arith) hf);
    memory = hm;
    forked = tt;
  }

  -- each record is refused from 70 on, and what comes of it is small
  does_small : (op : Op) (threads room : ℕ) → Low op
      → (above (way p m fs op).asks ≡ true) × SmallTurn (unless (first (room_for p m fs threads room (way p m fs op).limit)) (Does (way p m fs op).change (way p m fs op).out))
  does_small (New z s) threads room l = (refl, full (ltb (count_of m) m.capacity) refl)
    where
      full : (b : Bool) → ltb (count_of m) m.capacity ≡ b → SmallTurn (unless (cond b None (Some 65)) (Does (way p m fs (New z s)).change None))
      full true e = let k = ltb-true (count_of m) m.capacity e in
          goes _ _ _ (set_slots vs z (V.Reference (count_of m)) here (let a = hm.sized.most in omega arith)) (added_small m s hm k)
      full false e = omega arith
  does_small (Null z s) threads room l = (refl, goes _ _ m (set_slots vs z V.Null here (omega arith)) hm)
  does_small (Int z n) threads room l = (refl, goes _ _ m (set_slots vs z (V.Number n) here l) hm)
  does_small (Share z x) threads room l = (refl, goes _ _ m (set_slots vs z _ here (here x)) hm)
  does_small (Own z x) threads room l = (refl, goes _ _ m (set_slots (set vs x V.Null) z _ (set_slots vs x V.Null here (omega arith)) (here x)) hm)
  does_small (Get z x f) threads room l = (refl, goes _ _ m (set_slots vs z _ here (got_at x f)) hm)
  does_small (Take z x f) threads room l = (refl, goes _ _ _ (set_slots vs z _ here (got_at x f)) (stored_small m _ f 0 false hm (omega arith)))
  does_small (Set z x f y) threads room l = (
    refl,
    asked (all_words (word_of (value p m fs y) ∷ [])) _ (and_from _ _ (fits_word _ (here y)) refl)
        (goes _ _ _ (set_slots _ z _ (set_slots _ x V.Null (set_slots vs y _ here (left_at x f y)) (omega arith)) (here x)) (stored_small m _ f _ false hm (here y))),
  )
  does_small (Add z x y) threads room l = (refl, goes _ _ m (set_slots vs z (V.Number ((word_of (value p m fs x) + word_of (value p m fs y)) % 2 ^ 31)) here (mod-lt (word_of (value p m fs x) + word_of (value p m fs y)) (omega arith))) hm)
  does_small (Call z n args) threads room l = (refl, late (ltb (length fs) 8))
    where
      late : (b : Bool) → SmallTurn (unless (cond b None (Some 66)) (Does (way p m fs (Call z n args)).change None))
      late true = record {
        frames = push_all (λ (F : Frame). SmallSlots F.slots) (moved p m fs (newest fs).index (leaving vs args (callee p n).params)) (opened p m fs n args) no_frame
            (passing_small vs args (callee p n).params 16 here) (goes (newest fs).index (leaving vs args (callee p n).params) m (leaving_small vs args (callee p n).params here) hm).frames;
        memory = hm;
        forked = tt;
      }
      late false = omega arith
  does_small (Fork n args) threads room l = (refl, late (ltb threads 8))
    where
      late : (b : Bool) → SmallTurn (unless (cond b None (Some 67)) (Does (way p m fs (Fork n args)).change None))
      late true = record {
        frames = (goes (suc (newest fs).index) (leaving vs args (callee p n).params) m (leaving_small vs args (callee p n).params here) hm).frames;
        memory = hm;
        forked = passing_small vs args (callee p n).params 16 here;
      }
      late false = omega arith
  does_small (Return x) threads room l = (refl, returns x (length fs))
  does_small (Again args) threads room l = (refl, goes _ _ m (passing_small vs args (callee p (newest fs).function).params 16 here) hm)
  does_small (Join n) threads room l = (refl, goes _ vs m here hm)
  does_small (Emit x) threads room l = (refl, late (ltb 0 room))
    where
      late : (b : Bool) → SmallTurn (unless (cond b None (Some 68)) (Does (way p m fs (Emit x)).change (Some (word_of (value p m fs x)))))
      late true = goes _ vs m here hm
      late false = omega arith
  does_small (Ask t a b) threads room l =
      ((test_asks t).0, asked (all_words (trial p m vs t).words) _ (test_asks t).1 (cond_both (trial p m vs t).says _ _ (λ c. SmallChange c) (λ _. yes_small t) (λ _. goes _ vs m here hm)))

  turn_small : (o : Option Op) (threads room : ℕ) → LowRecord o → SmallTurn (taking p m fs threads room o)
  turn_small None threads room l = omega arith
  turn_small (Some op) threads room l =
      let d = does_small op threads room l in
      unless_above (way p m fs op).asks _ d.0 (cond_both (way p m fs op).halts _ _ SmallTurn (λ _. record { frames = hf; memory = hm; forked = tt }) (λ _. d.1))

-- the machine
abbrev SmallT : Task → Type 0
SmallT t = SmallFrames t.frames

fork_small : (ts : List Task) (F : Option Frame) → SmallFork F → ((i : ℕ) → SmallT (get_or ts i no_task)) → (i : ℕ) → SmallT (get_or (joined ts F) i no_task)
fork_small ts None h k = k
fork_small ts (Some F) h k = push_all SmallT ts (record { status = Running; frames = F ∷ [] }) no_task one k
  where
    one : SmallFrames (F ∷ [])
    one zero x = h x
    one (suc j) x = omega arith

abbrev pub SmallAfter : Result Taken Fault → Type 0
SmallAfter (Err e) = 60 ≤ e.number
SmallAfter (Ok t) = Small t.world

commit_small : (W : World) (i : ℕ) → Small W → (t : Turn) → SmallTurn t → SmallAfter (commit W i t)
commit_small W i h (Fails n) k = k
commit_small W i h (Does c out) k = record {
  frames = fork_small (set W.tasks i (record { status = c.status; frames = c.frames })) c.forked k.forked
      (set_all SmallT W.tasks i (record { status = c.status; frames = c.frames }) no_task k.frames h.frames);
  memory = k.memory;
}

pub step_small : (p : Program) → LowProgram p → (room : ℕ) (W : World) (i : ℕ) → Small W → SmallAfter (stepped p room W i)
step_small p l room W i h = cond_both (is_running (task W i).status) _ (Err (step_fault i 64)) SmallAfter
    (λ _. commit_small W i h _ (turn_small p W.memory (task W i).frames (h.frames i) h.memory (standing p (task W i).frames) (length W.tasks) room (standing_low p (task W i).frames l)))
    (λ _. omega arith)

after_small : (W : World) (o : Result Taken Fault) → Small W → SmallAfter o → Small (after_step W o)
after_small W (Err e) h k = h
after_small W (Ok t) h k = k

runs_small : (p : Program) → LowProgram p → (W : World) (ts : List (ℕ × ℕ)) → Small W → Small (runs p W ts)
runs_small p l W [] h = h
runs_small p l W (t ∷ ts) h = runs_small p l (after_step W (stepped p t.1 W t.0)) ts (after_small W (stepped p t.1 W t.0) h (step_small p l t.1 W t.0 h))

start_small : (m : Store) → count_of m ≡ 0 → m.capacity ≤ 1024 → Small (starting m)
start_small m e h = record { frames = frames; memory = record { words = λ o f. subst⁻¹ (λ (c : Cell). c.word < 2 ^ 31) (no_cell m.objects o f e) (omega arith); sized = record { most = h; fits = omega arith } } }
  where
    no_cell : (os : List Object) (o f : ℕ) → length os ≡ 0 → get_or (get_or os o (record { kind = 0; cells = [] })).cells f (plain 0) ≡ plain 0
    no_cell [] o f h = refl
    no_cell (q ∷ os) o f h = absurd (omega arith)

    first_frame : SmallFrames (main_frame ∷ [])
    first_frame zero x = rep_all SmallV 16 V.Empty (omega arith) x
    first_frame (suc j) x = omega arith

    frames : (i : ℕ) → SmallFrames (task (starting m) i).frames
    frames zero j x = first_frame j x
    frames (suc i) j x = omega arith

pub words_stand : WordsStand
words_stand b p h m W turns c s =
    let l = program_low b p h in
    let a = started_is m W s in
    let small = runs_small p l W turns (subst Small a.1 (start_small m a.0 c)) in
    record { small = small; unrefused = λ i room e q. subst SmallAfter q (step_small p l room (runs p W turns) i small) }
