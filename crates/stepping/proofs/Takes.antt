-- The code's turn of a thread, from the frames that it finds.
use Rattle.std.proofs.Common.{◌≡◌, ℕ, Bool, true, false, cond, ltb, List, [], ◌∷◌, ◌++◌, length, reverse, Some, None, Ok, Err, Option, Result, sym, refl, ap, ◌∙◌, subst, arith}
use Rattle.std.specs.List.{slice_get}
use Rattle.std.proofs.lemmas.Bool.{ltb-true}
use Rattle.table.specs.Records.{Op, New, Null, Int, Share, Own, Get, Take, Set, Add, Call, Fork, Return, Again, Join, Emit, Ask}
use Rattle.table.specs.Program.{Program}
use Rattle.rules.specs.Rules.{Premise, first}
use Rattle.memory.specs.Model.{Store}
use Rattle.machine.specs.declared.threads.Frame.{Frame}
use Rattle.machine.specs.Ways.{Way, newest, standing, stopped, way}
use Rattle.machine.specs.declared.threads.Status.TheVariants.{Halted}
use Rattle.machine.specs.Steps.{Turn, Fails, Does, unless, room_for, by_way, taking}
use Rattle.stepping.specs.declared.turning.Outcome.{Outcome}
use Rattle.stepping.specs.declared.turning.Outcome.TheVariants.{Goes, Calls, Forks}
use Rattle.machine.specs.Alone.{alone, done_of, memory_after}
use Rattle.stepping.specs.Calling.{granted, handing, handed, forking, returning}
use Rattle.stepping.specs.Turns.{becomes, led, acted, made, Listed, FitsIn}
use Rattle.stepping.proofs.Frames.{from_end}
use Rattle.stepping.proofs.Turned.{leaves_memory}
use Rattle.stepping.proofs.Made.{acted_made}

-- a value that is granted has passed the last thing that was asked
pub granted_past : {X : Type 0} (P : Result X ℕ → Type 0) (x : X) (k : ℕ) (b : Bool) → ((n : ℕ) → P (Err n)) → (b ≡ true → P (Ok x)) → (qs : List Premise) → P (granted (qs ++ ((k, b) ∷ [])) x)
granted_past P x k true f h [] = h refl
granted_past P x k false f h [] = f k
granted_past P x k b f h (q ∷ qs) = by q.1 (granted_past P x k b f h qs)
  where
    by : (c : Bool) → P (granted (qs ++ ((k, b) ∷ [])) x) → P (cond c (granted (qs ++ ((k, b) ∷ [])) x) (Err q.0))
    by true g = g
    by false g = f q.0

-- a record that puts nothing out, and one that asks for room first
pub going_fits : (p : Program) (m : Store) (fs : List Frame) (depth threads n room : ℕ) (w : Way) → w.out ≡ None → FitsIn depth threads room (becomes Goes (done_of (by_way p m fs n room w)))
going_fits p m fs depth threads n room w e = by (first w.asks) w.halts (first (room_for p m fs n room w.limit))
  where
    by : (x : Option ℕ) (b : Bool) (y : Option ℕ) → FitsIn depth threads room (becomes Goes (done_of (unless x (cond b (Does (stopped p m fs Halted fs) None) (unless y (Does w.change w.out))))))
    by (Some k) b y = tt
    by None true y = tt
    by None false (Some k) = tt
    by None false None = subst (Listed room) (sym e) tt

emit_fits : (p : Program) (m : Store) (F : Frame) (depth threads room x : ℕ) → FitsIn depth threads room (becomes Goes (done_of (alone p m F room (Emit x))))
emit_fits p m F depth threads room x = by (first (way p m (F ∷ []) (Emit x)).asks) (ltb 0 room) refl
  where
    by : (o : Option ℕ) (b : Bool) → ltb 0 room ≡ b → FitsIn depth threads room (becomes Goes (done_of (unless o (unless (first ((68, b) ∷ [])) (Does (way p m (F ∷ []) (Emit x)).change (way p m (F ∷ []) (Emit x)).out)))))
    by (Some k) b e = tt
    by None true e = ltb-true 0 room e
    by None false e = tt

leading_fits : (depth threads room : ℕ) (r : Result (Option Frame) ℕ) → FitsIn depth threads room (becomes led r)
leading_fits depth threads room (Ok None) = tt
leading_fits depth threads room (Ok (Some F)) = tt
leading_fits depth threads room (Err n) = tt

going_kept : (m : Store) (t : Turn) (n : ℕ) → becomes Goes (done_of t) ≡ Err n → memory_after m t ≡ m
going_kept m (Fails k) n e = refl
going_kept m (Does c out) n e = let z : ◌≡◌ {A = ℕ} 0 1 = cc in absurd (omega arith)

module _ (p : Program) (m : Store) (F : Frame) (w : Option Frame) (depth threads room : ℕ) where
  abbrev act_of : Op → Result Outcome ℕ
  act_of = acted p m F w depth threads room

  -- a call that is not refused has room for its frame, a fork for its thread, and a number for its place in the list
  fits_within : (op : Op) → (way p m (F ∷ []) op).out ≡ None → FitsIn depth threads room (becomes Goes (done_of (alone p m F room op)))
  fits_within op e = going_fits p m (F ∷ []) depth threads 0 room (way p m (F ∷ []) op) e

  pub acted_fits : (op : Op) → FitsIn depth threads room (act_of op)
  acted_fits (New z s) = fits_within (New z s) refl
  acted_fits (Null z s) = fits_within (Null z s) refl
  acted_fits (Int z n) = fits_within (Int z n) refl
  acted_fits (Share z x) = fits_within (Share z x) refl
  acted_fits (Own z x) = fits_within (Own z x) refl
  acted_fits (Get z x f) = fits_within (Get z x f) refl
  acted_fits (Take z x f) = fits_within (Take z x f) refl
  acted_fits (Set z x f y) = fits_within (Set z x f y) refl
  acted_fits (Add z x y) = fits_within (Add z x y) refl
  acted_fits (Call z n args) = granted_past (λ r. FitsIn depth threads room (becomes Calls r)) (handed p F n args) 66 (ltb depth 8) (λ k. tt) (ltb-true depth 8) (handing p F (ltb z 16) n args ((73, ltb n (length p.functions)) ∷ []))
  acted_fits (Fork n args) = granted_past (λ r. FitsIn depth threads room (becomes Forks r)) (forking p F n args) 67 (ltb threads 8) (λ k. tt) (ltb-true threads 8) (handing p F true n args ((73, ltb n (length p.functions)) ∷ []))
  acted_fits (Return x) = leading_fits depth threads room (returning p F w x)
  acted_fits (Again args) = fits_within (Again args) refl
  acted_fits (Join n) = fits_within (Join n) refl
  acted_fits (Emit x) = emit_fits p m F depth threads room x
  acted_fits (Ask t a b) = fits_within (Ask t a b) refl

  -- what is refused leaves the memory as it was
  pub acted_kept : (op : Op) (n : ℕ) → act_of op ≡ Err n → memory_after m (alone p m F room op) ≡ m
  acted_kept (New z s) n e = going_kept m _ n e
  acted_kept (Null z s) n e = going_kept m _ n e
  acted_kept (Int z k) n e = going_kept m _ n e
  acted_kept (Share z x) n e = going_kept m _ n e
  acted_kept (Own z x) n e = going_kept m _ n e
  acted_kept (Get z x f) n e = going_kept m _ n e
  acted_kept (Take z x f) n e = going_kept m _ n e
  acted_kept (Set z x f y) n e = going_kept m _ n e
  acted_kept (Add z x y) n e = going_kept m _ n e
  acted_kept (Call z k args) n e = sym (leaves_memory p m (F ∷ []) 0 room (way p m (F ∷ []) (Call z k args)) refl)
  acted_kept (Fork k args) n e = sym (leaves_memory p m (F ∷ []) 0 room (way p m (F ∷ []) (Fork k args)) refl)
  acted_kept (Return x) n e = sym (leaves_memory p m (F ∷ []) 0 room (way p m (F ∷ []) (Return x)) refl)
  acted_kept (Again args) n e = going_kept m _ n e
  acted_kept (Join k) n e = going_kept m (alone p m F room (Join k)) n e
  acted_kept (Emit x) n e = going_kept m _ n e
  acted_kept (Ask t a b) n e = going_kept m _ n e

-- the record before the newest frame
module _ (p : Program) (fs : List Frame) where
  module _ (m : Store) (threads room : ℕ) where
    pub takes : (n : Store) (F : Frame) (w : Option Frame) (d : ℕ) (op : Op) (r : Result Outcome ℕ) → F ≡ newest fs → w ≡ slice_get (reverse fs) 1 → d ≡ length fs → Some op ≡ standing p fs
        → r ≡ acted p m F w d threads room op → n ≡ memory_after m (alone p m F room op) → made fs n r ≡ taking p m fs threads room (standing p fs)
    takes n F w d op r e_f ew ed es hr hn =
        ap (λ (k : Store). made fs k r) (hn ∙ ap (λ (G : Frame). memory_after m (alone p m G room op)) e_f)
        ∙ ap (made fs (memory_after m (alone p m (newest fs) room op))) (hr ∙ ap (λ (G : Frame). acted p m G w d threads room op) e_f ∙ ap (λ (k : ℕ). acted p m (newest fs) w k threads room op) ed)
        ∙ acted_made p m fs threads room w (ew ∙ from_end fs 1) op
        ∙ ap (taking p m fs threads room) es
