-- What the code makes of a record is the turn of its thread.
use Rattle.std.proofs.Common.{◌≡◌, ℕ, zero, suc, ◌-◌, ◌≤◌, Bool, true, false, cond, ◌&&◌, ltb, List, [], ◌∷◌, ◌++◌, length, take, set, Some, None, Ok, Err, Option, Result, sym, refl, ap, ◌∙◌, arith}
use Rattle.std.proofs.lemmas.List.{set-get_or}
use Rattle.std.proofs.lemmas.Bool.{ltb-false}
use Rattle.table.specs.Records.{Op, New, Null, Int, Share, Own, Get, Take, Set, Add, Call, Fork, Return, Again, Join, Emit, Ask}
use Rattle.table.specs.Program.{Program}
use Rattle.rules.specs.Rules.{Premise, first, callee}
use Rattle.memory.specs.Model.{Store}
use Rattle.machine.specs.declared.threads.Frame.{Frame}
use Rattle.machine.specs.declared.threads.Status.{Status}
use Rattle.machine.specs.declared.threads.Status.TheVariants.{Running, Ended, Halted}
use Rattle.machine.specs.Values.{at, given, suits}
use Rattle.machine.specs.World.{no_frame, op_at}
use Rattle.machine.specs.Ways.{Change, Way, newest, waiting, stopped, way, returned, is_call, is_slot, call_slot}
use Rattle.machine.specs.Tests.{trial}
use Rattle.machine.specs.Steps.{Turn, Fails, Does, unless, by_way, room_for}
use Rattle.stepping.specs.declared.turning.Outcome.TheVariants.{Goes, Calls, Forks}
use Rattle.machine.specs.Alone.{alone, done_of, memory_after}
use Rattle.stepping.specs.Calling.{granted, handed, forking, handing, ending, resuming, resumed, returning}
use Rattle.stepping.proofs.Turned.{leaves_memory}
use Rattle.stepping.specs.Turns.{becomes, led, acted, made}

-- a value that is granted, and the turn that it makes
pub granted_turn : {X : Type 0} (f : Result X ℕ → Turn) (x : X) (t : Turn) → ((n : ℕ) → f (Err n) ≡ Fails n) → f (Ok x) ≡ t → (qs : List Premise) → f (granted qs x) ≡ unless (first qs) t
granted_turn f x t a b [] = b
granted_turn f x t a b (q ∷ qs) = by q.1 (granted_turn f x t a b qs)
  where
    by : (c : Bool) → f (granted qs x) ≡ unless (first qs) t → f (cond c (granted qs x) (Err q.0)) ≡ unless (cond c (first qs) (Some q.0)) t
    by true h = h
    by false h = a q.0

pub first_both : (ps qs : List Premise) (t : Turn) → unless (first (ps ++ qs)) t ≡ unless (first ps) (unless (first qs) t)
first_both [] qs t = refl
first_both (q ∷ ps) qs t = by q.1 (first_both ps qs t)
  where
    by : (c : Bool) → unless (first (ps ++ qs)) t ≡ unless (first ps) (unless (first qs) t) → unless (cond c (first (ps ++ qs)) (Some q.0)) t ≡ unless (cond c (first ps) (Some q.0)) (unless (first qs) t)
    by true h = h
    by false h = refl

module _ (p : Program) (m : Store) (fs : List Frame) (threads room : ℕ) where
  abbrev F : Frame
  F = newest fs

  -- a change of the newest frame alone
  pub record Like (c d : Change) : Type 0 where
    pub status : c.status ≡ d.status
    pub frames : c.frames ≡ set fs (length fs - 1) (newest d.frames)
    pub memory : c.memory ≡ d.memory
    pub forked : c.forked ≡ None

  like_either : (b : Bool) (c d c' d' : Change) → Like c d → Like c' d' → Like (cond b c c') (cond b d d')
  like_either true c d c' d' h k = h
  like_either false c d c' d' h k = k

  does_like : (c d : Change) (out : Option ℕ) → Like c d → made fs d.memory (Ok (Goes (record { status = d.status; frame = newest d.frames; out = out }))) ≡ Does c out
  does_like c d out h = ap (λ (x : Change). Does x out) (by_parts _ _ _ _ _ _ _ _ (sym h.status) (sym h.frames) (sym h.memory) (sym h.forked))
    where
      by_parts : (s t : Status) (gs hs : List Frame) (a b : Store) (x y : Option Frame) → s ≡ t → gs ≡ hs → a ≡ b → x ≡ y
          → ◌≡◌ {A = Change} (record { status = s; frames = gs; memory = a; forked = x }) (record { status = t; frames = hs; memory = b; forked = y })
      by_parts s t gs hs a b x y e f g h = cc

  -- a record within its frame does to its thread what it would do to one with this frame alone
  pub goes_as : (w v : Way) → w.asks ≡ v.asks → w.halts ≡ v.halts → first (room_for p m fs threads room w.limit) ≡ first (room_for p m (F ∷ []) 0 room v.limit) → w.out ≡ v.out → Like w.change v.change
      → made fs (memory_after m (by_way p m (F ∷ []) 0 room v)) (becomes Goes (done_of (by_way p m (F ∷ []) 0 room v))) ≡ by_way p m fs threads room w
  goes_as w v a h l o c =
      by (first v.asks) v.halts (first (room_for p m (F ∷ []) 0 room v.limit))
      ∙ sym (
      ap (λ (x : List Premise). unless (first x) (cond w.halts (Does (stopped p m fs Halted fs) None) (unless (first (room_for p m fs threads room w.limit)) (Does w.change w.out)))) a
      ∙ ap (λ (b : Bool). unless (first v.asks) (cond b (Does (stopped p m fs Halted fs) None) (unless (first (room_for p m fs threads room w.limit)) (Does w.change w.out)))) h
      ∙ ap (λ (x : Option ℕ). unless (first v.asks) (cond v.halts (Does (stopped p m fs Halted fs) None) (unless x (Does w.change w.out)))) l
      ∙ ap (λ (x : Option ℕ). unless (first v.asks) (cond v.halts (Does (stopped p m fs Halted fs) None) (unless (first (room_for p m (F ∷ []) 0 room v.limit)) (Does w.change x)))) o
      )
    where
      by : (x : Option ℕ) (b : Bool) (y : Option ℕ)
          → made fs (memory_after m (unless x (cond b (Does (stopped p m (F ∷ []) Halted (F ∷ [])) None) (unless y (Does v.change v.out))))) (becomes Goes (done_of (unless x (cond b (Does (stopped p m (F ∷ []) Halted (F ∷ [])) None) (unless y (Does v.change v.out))))))
          ≡ unless x (cond b (Does (stopped p m fs Halted fs) None) (unless y (Does w.change v.out)))
      by (Some n) b y = refl
      by None true y = ap (λ (gs : List Frame). Does (stopped p m fs Halted gs) None) (set-get_or fs (length fs - 1) no_frame)
      by None false (Some n) = refl
      by None false None = does_like w.change v.change v.out c

  -- calls and forks
  pub call_made : (z n : ℕ) (args : List ℕ)
      → made fs m (becomes Calls (granted (handing p F (ltb z 16) n args ((73, ltb n (length p.functions)) ∷ (66, ltb (length fs) 8) ∷ [])) (handed p F n args))) ≡ by_way p m fs threads room (way p m fs (Call z n args))
  call_made z n args =
      granted_turn (λ r. made fs m (becomes Calls r)) (handed p F n args) (Does (way p m fs (Call z n args)).change None) (λ k. refl) refl (handing p F (ltb z 16) n args ((73, ltb n (length p.functions)) ∷ (66, ltb (length fs) 8) ∷ []))
      ∙ first_both (way p m fs (Call z n args)).asks ((66, ltb (length fs) 8) ∷ []) (Does (way p m fs (Call z n args)).change None)

  pub fork_made : (n : ℕ) (args : List ℕ)
      → made fs m (becomes Forks (granted (handing p F true n args ((73, ltb n (length p.functions)) ∷ (67, ltb threads 8) ∷ [])) (forking p F n args))) ≡ by_way p m fs threads room (way p m fs (Fork n args))
  fork_made n args =
      granted_turn (λ r. made fs m (becomes Forks r)) (forking p F n args) (Does (way p m fs (Fork n args)).change None) (λ k. refl) refl (handing p F true n args ((73, ltb n (length p.functions)) ∷ (67, ltb threads 8) ∷ []))
      ∙ first_both (way p m fs (Fork n args)).asks ((67, ltb threads 8) ∷ []) (Does (way p m fs (Fork n args)).change None)

  -- a return: the premises and the change, by whether a frame waits and by how many frames there are
  abbrev return_by : ℕ → Bool → ℕ → Turn
  return_by x b n =
      unless (first
      ((70, cond b (is_call (op_at p (waiting fs))) true)
      ∷ (71, given F.slots x && cond b (is_slot (call_slot (op_at p (waiting fs)))) true)
      ∷ (72, suits (callee p F.function).result (at F.slots x))
      ∷ []))
      (Does (returned p m fs x n) None)

  abbrev awaiting : Bool → Option Frame
  awaiting b = cond b (Some (waiting fs)) None

  leads_resumed : (x d : ℕ) → length fs ≡ suc (suc d) → made fs m (becomes led (returning p F (awaiting true) x)) ≡ return_by x true (suc (suc d))
  leads_resumed x d e =
      let one : length fs - 1 ≡ suc d = omega arith in
      let two : length fs - 2 ≡ d = omega arith in
      granted_turn (λ r. made fs m (becomes led r)) (Some (resumed p F (waiting fs) x)) (Does (returned p m fs x (suc (suc d))) None) (λ k. refl)
      (ap (λ (n : ℕ). Does (record { status = Running; frames = set (take n fs) (length fs - 2) (resumed p F (waiting fs) x); memory = m; forked = None }) None) one
      ∙ ap (λ (n : ℕ). Does (record { status = Running; frames = set (take (suc d) fs) n (resumed p F (waiting fs) x); memory = m; forked = None }) None) two)
      (resuming p F (waiting fs) x)

  and_true : (b : Bool) → b ≡ (b && true)
  and_true true = refl
  and_true false = refl

  leads_ended : (x n : ℕ) → returned p m fs x n ≡ record { status = Ended; frames = []; memory = m; forked = None } → made fs m (becomes led (returning p F (awaiting false) x)) ≡ return_by x false n
  leads_ended x n e =
      granted_turn (λ r. made fs m (becomes led r)) None (Does (returned p m fs x n) None) (λ k. refl) (ap (λ (c : Change). Does c None) (sym e)) (ending p F x)
      ∙ ap (λ (b : Bool). unless (first ((71, b) ∷ (72, suits (callee p F.function).result (at F.slots x)) ∷ [])) (Does (returned p m fs x n) None)) (and_true (given F.slots x))

  by_count : (x n : ℕ) → length fs ≡ n → (b : Bool) → ltb 1 n ≡ b → made fs m (becomes led (returning p F (awaiting b) x)) ≡ return_by x b n
  by_count x zero e true t = let z : ◌≡◌ {A = ℕ} 0 1 = cc in absurd (omega arith)
  by_count x zero e false t = leads_ended x zero refl
  by_count x (suc zero) e true t = let z : ◌≡◌ {A = ℕ} 0 1 = cc in absurd (omega arith)
  by_count x (suc zero) e false t = leads_ended x (suc zero) refl
  by_count x (suc (suc d)) e true t = leads_resumed x d e
  by_count x (suc (suc d)) e false t = let l : suc (suc d) ≤ 1 = ltb-false 1 (suc (suc d)) t in absurd (omega arith)

  pub return_made : (x : ℕ) (w : Option Frame) → w ≡ awaiting (ltb 1 (length fs)) → made fs m (becomes led (returning p F w x)) ≡ by_way p m fs threads room (way p m fs (Return x))
  return_made x w e = ap (λ (o : Option Frame). made fs m (becomes led (returning p F o x))) e ∙ by_count x (length fs) refl (ltb 1 (length fs)) refl

  -- every record
  pub acted_made : (w : Option Frame) → w ≡ awaiting (ltb 1 (length fs)) → (op : Op) → made fs (memory_after m (alone p m F room op)) (acted p m F w (length fs) threads room op) ≡ by_way p m fs threads room (way p m fs op)
  acted_made w e (New z s) = goes_as (way p m fs (New z s)) (way p m (F ∷ []) (New z s)) refl refl refl refl (record { status = refl; frames = refl; memory = refl; forked = refl })
  acted_made w e (Null z s) = goes_as (way p m fs (Null z s)) (way p m (F ∷ []) (Null z s)) refl refl refl refl (record { status = refl; frames = refl; memory = refl; forked = refl })
  acted_made w e (Int z n) = goes_as (way p m fs (Int z n)) (way p m (F ∷ []) (Int z n)) refl refl refl refl (record { status = refl; frames = refl; memory = refl; forked = refl })
  acted_made w e (Share z x) = goes_as (way p m fs (Share z x)) (way p m (F ∷ []) (Share z x)) refl refl refl refl (record { status = refl; frames = refl; memory = refl; forked = refl })
  acted_made w e (Own z x) = goes_as (way p m fs (Own z x)) (way p m (F ∷ []) (Own z x)) refl refl refl refl (record { status = refl; frames = refl; memory = refl; forked = refl })
  acted_made w e (Get z x f) = goes_as (way p m fs (Get z x f)) (way p m (F ∷ []) (Get z x f)) refl refl refl refl (record { status = refl; frames = refl; memory = refl; forked = refl })
  acted_made w e (Take z x f) = goes_as (way p m fs (Take z x f)) (way p m (F ∷ []) (Take z x f)) refl refl refl refl (record { status = refl; frames = refl; memory = refl; forked = refl })
  acted_made w e (Set z x f y) = goes_as (way p m fs (Set z x f y)) (way p m (F ∷ []) (Set z x f y)) refl refl refl refl (record { status = refl; frames = refl; memory = refl; forked = refl })
  acted_made w e (Add z x y) = goes_as (way p m fs (Add z x y)) (way p m (F ∷ []) (Add z x y)) refl refl refl refl (record { status = refl; frames = refl; memory = refl; forked = refl })
  acted_made w e (Call z n args) = ap (λ (k : Store). made fs k (acted p m F w (length fs) threads room (Call z n args))) (sym (leaves_memory p m (F ∷ []) 0 room (way p m (F ∷ []) (Call z n args)) refl)) ∙ call_made z n args
  acted_made w e (Fork n args) = ap (λ (k : Store). made fs k (acted p m F w (length fs) threads room (Fork n args))) (sym (leaves_memory p m (F ∷ []) 0 room (way p m (F ∷ []) (Fork n args)) refl)) ∙ fork_made n args
  acted_made w e (Return x) = ap (λ (k : Store). made fs k (acted p m F w (length fs) threads room (Return x))) (sym (leaves_memory p m (F ∷ []) 0 room (way p m (F ∷ []) (Return x)) refl)) ∙ return_made x w e
  acted_made w e (Again args) = goes_as (way p m fs (Again args)) (way p m (F ∷ []) (Again args)) refl refl refl refl (record { status = refl; frames = refl; memory = refl; forked = refl })
  acted_made w e (Join n) = goes_as (way p m fs (Join n)) (way p m (F ∷ []) (Join n)) refl refl refl refl (record { status = refl; frames = refl; memory = refl; forked = refl })
  acted_made w e (Emit x) = goes_as (way p m fs (Emit x)) (way p m (F ∷ []) (Emit x)) refl refl refl refl (record { status = refl; frames = refl; memory = refl; forked = refl })
  acted_made w e (Ask t a b) =
      goes_as (way p m fs (Ask t a b)) (way p m (F ∷ []) (Ask t a b)) refl refl refl refl
      (like_either (trial p m F.slots t).says _ _ _ _ (record { status = refl; frames = refl; memory = refl; forked = refl }) (record { status = refl; frames = refl; memory = refl; forked = refl }))
