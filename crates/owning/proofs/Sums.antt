-- Sums over slots, frames and threads, one more at a time, and what is known of each frame.
use Rattle.std.proofs.Common.{◌≡◌, ℕ, zero, suc, ◌+◌, ◌<◌, cond, Bool, true, false, ◌&&◌, ◌||◌, ◌==◌, ltb, List, [], ◌∷◌, map, length, get_or, take, Ok, Err, Result, sym, refl, ap, ◌∙◌, ap₂, arith}
use Rattle.std.specs.Prelude.{count_by, zip}
use Rattle.std.specs.List.{list_all}
use Rattle.std.specs.Result.{result_unwrap_or}
use Rattle.std.proofs.lemmas.List.{get_or-map, length-map}
use Rattle.std.proofs.lemmas.List.Sums.{sum_by-cons}
use Rattle.std.proofs.lemmas.Bool.{and_parts, ltb-true}
use Rattle.table.specs.declared.fault.Place.TheVariants as place
use Rattle.table.specs.declared.fault.Fault.{Fault}
use Rattle.table.specs.declared.types.Ty.{Ty}
use Rattle.table.specs.Types.{is_owned, is_pristine}
use Rattle.table.specs.Program.{Program}
use Rattle.table.specs.Faults.{Passes, need}
use Rattle.table.proofs.Each.{each_need}
use Rattle.rules.specs.Rules.{callee}
use Rattle.rules.specs.Before.{Fronts}
use Rattle.memory.specs.Model.{Store}
use Rattle.machine.specs.declared.threads.Slot.{Slot}
use Rattle.machine.specs.declared.threads.Slot.TheVariants.{Empty, Null, Number, Reference}
use Rattle.machine.specs.declared.threads.Frame.{Frame}
use Rattle.machine.specs.declared.threads.Thread.{Thread}
use Rattle.machine.specs.World.{task_of, no_task, no_thread, no_frame, in_table}
use Rattle.safety.specs.Owners.{owns, slots_owning, all_in_table, frames_known}

-- one more part of a sum goes from what is left to what is summed
pub moves : (sum part more left whole : ℕ) → sum + left ≡ whole → left ≡ part + more → (sum + part) + more ≡ whole
moves sum part more left whole h e = omega arith

pub ends : (sum left whole : ℕ) → sum + left ≡ whole → left ≡ 0 → sum ≡ whole
ends sum left whole h e = omega arith

-- the slots of a frame, counted
one_owns : (t : Ty) (v : Slot) (o : ℕ) → cond (owns t v o == 1) 1 0 ≡ owns t v o
one_owns t Empty o = refl
one_owns t Null o = refl
one_owns t (Number n) o = refl
one_owns t (Reference q) o = by ((is_owned t.kind || is_pristine t.kind) && q == o)
  where
    by : (b : Bool) → ◌≡◌ {A = ℕ} (cond (cond {A = ℕ} b 1 0 == 1) 1 0) (cond b 1 0)
    by true = refl
    by false = refl

pub slots_counted : (ts : List Ty) (vs : List Slot) (o : ℕ) → count_by (λ (x : Ty × Slot). owns x.0 x.1 o == 1) (zip ts vs) ≡ slots_owning ts vs o
slots_counted [] vs o = refl
slots_counted (t ∷ ts) [] o = refl
slots_counted (t ∷ ts) (v ∷ vs) o =
    sum_by-cons (λ (x : Ty × Slot). cond (owns x.0 x.1 o == 1) 1 0) (t, v) (zip ts vs) ∙ ap₂ (λ (m n : ℕ). m + n) (one_owns t v o) (slots_counted ts vs o)

-- the types that are in front where as many were found
pub types_front : (ts xs : List Ty) (r : Result ℕ Fault) → r ≡ Ok (length ts) → Fronts ts xs r → take (result_unwrap_or r 0) xs ≡ ts
types_front ts xs (Ok d) e h = h
types_front ts xs (Err f) e h = let z : ◌≡◌ {A = ℕ} 0 1 = cc in absurd (omega arith)

-- a frame that the table has stands before a record
pub record_there : (p : Program) (F : Frame) → in_table p F ≡ true → F.index < length (callee p F.function).records
record_there p F h = ltb-true _ _ (and_parts (ltb F.function (length p.functions)) (ltb F.index (length (callee p F.function).records)) h).1

-- the frames that the table has
module _ (p : Program) where
  pub all_known : (Fs : List Frame) → list_all (in_table p) Fs ≡ all_in_table p Fs
  all_known [] = refl
  all_known (F ∷ Fs) = ap (λ (b : Bool). in_table p F && b) (all_known Fs)

  pub in_table_at : (Fs : List Frame) (i : ℕ) → all_in_table p Fs ≡ true → i < length Fs → in_table p (get_or Fs i no_frame) ≡ true
  in_table_at [] i h l = absurd (omega arith)
  in_table_at (F ∷ Fs) zero h l = (and_parts _ _ h).0
  in_table_at (F ∷ Fs) (suc i) h l = in_table_at Fs i (and_parts _ _ h).1 (omega arith)

  -- what is demanded of a thread
  abbrev pub known_at : List Thread → ℕ → Passes
  known_at ts i = need (all_in_table p (get_or (map task_of ts) i no_task).frames) 69 (place.Thread i)

  pub known_by : (ts : List Thread) (i : ℕ) (Fs : List Frame) → i < length ts → Fs ≡ (task_of (get_or ts i no_thread)).frames → need (all_in_table p Fs) 69 (place.Thread i) ≡ known_at ts i
  known_by ts i Fs h e =
      ap (λ Gs. need (all_in_table p Gs) 69 (place.Thread i)) e
      ∙ ap (λ t. need (all_in_table p t.frames) 69 (place.Thread i)) (sym (get_or-map task_of ts i no_thread no_task h))

  pub frames_there : (ts : List Thread) (m : Store) (i : ℕ) → frames_known p (record { tasks = map task_of ts; memory = m }) ≡ Ok tt → i < length ts → all_in_table p (task_of (get_or ts i no_thread)).frames ≡ true
  frames_there ts m i h l =
      let size : length (map task_of ts) ≡ length ts = length-map ts task_of in
      let there : i < length (map task_of ts) = omega arith in
      ap (λ t. all_in_table p t.frames) (sym (get_or-map task_of ts i no_thread no_task l))
      ∙ each_need (length (map task_of ts)) (λ j. all_in_table p (get_or (map task_of ts) j no_task).frames) 69 (λ j. place.Thread j) h i there
