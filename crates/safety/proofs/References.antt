-- References on every run of an accepted table: what they name is there, and a pristine slot is the only name of its object.
use Rattle.std.proofs.Common.{◌≡◌, ℕ, zero, suc, ◌<◌, false, List, [], ◌∷◌, length, get_or, sym, refl, ap, ◌∙◌, subst, ap₂, arith}
use Rattle.table.specs.declared.types.Kind.{Kind}
use Rattle.table.specs.declared.types.Kind.TheVariants.{Number, Alias, Owned, Pristine}
use Rattle.table.specs.declared.types.Ty.{Ty}
use Rattle.table.specs.Types.{is_number}
use Rattle.table.specs.Program.{Program}
use Rattle.rules.specs.Rules.{slot, declared}
use Rattle.rules.proofs.Formed.{program_stands}
use Rattle.memory.specs.Model.{object_at, cell_at}
use Rattle.machine.specs.declared.threads.Slot.{Slot}
use Rattle.machine.specs.declared.threads.Slot.TheVariants as V
use Rattle.machine.specs.declared.threads.Frame.{Frame}
use Rattle.machine.specs.World.{World, no_frame}
use Rattle.safety.specs.Model as C
use Rattle.safety.specs.Threads.{entry_at, flat}
use Rattle.safety.specs.Kept.{Kept}
use Rattle.safety.specs.Checked.{by_kind, core, field_by_kind, structs_of, current, stacks, scopes, Checked}
use Rattle.safety.specs.Notes.{notes}
use Rattle.safety.specs.Runs.{runs}
use Rattle.safety.specs.References.{frame, scope, Refers, Owns, Points, Named, NamesStand}
use Rattle.safety.proofs.Keeps.{kept_sound}
use Rattle.safety.proofs.Calls.{slot_frame}
use Rattle.safety.proofs.Images.{mem}
use Rattle.safety.proofs.Meaning.{never}
use Rattle.safety.proofs.Ground.{saved_at, fits_struct}
use Rattle.safety.proofs.Tells.{owned_by}
use Rattle.safety.proofs.Counts.{frames_of}
use Rattle.safety.proofs.Notes.{accepted_checked, notes_types}
use Rattle.safety.proofs.Promise.{Well, frames_at}
use Rattle.safety.proofs.Tables.{reached}

-- a slot that refers is one of its frame's
held_low : (vs : List Slot) (x o : ℕ) → get_or vs x V.Empty ≡ V.Reference o → x < length vs
held_low [] x o h = let z : ◌≡◌ {A = ℕ} 0 1 = cc in absurd (omega arith)
held_low (v ∷ vs) zero o h = omega arith
held_low (v ∷ vs) (suc x) o h = let l = held_low vs x o h in omega arith

-- a slot in scope, as the core has it
entry_is : (vs : List Slot) (sc : List (Ty × List Ty)) (x : ℕ) → x < length (current sc) → x < length vs
    → entry_at vs (stacks sc) x ≡ C.here (get_or vs x V.Empty) (core (slot (current sc) x)) (saved_at sc x)
entry_is [] sc x l h = absurd (omega arith)
entry_is (v ∷ vs) [] x l h = absurd (omega arith)
entry_is (v ∷ vs) (a ∷ sc) zero l h = refl
entry_is (v ∷ vs) (a ∷ sc) (suc x) l h = entry_is vs sc x (omega arith) (omega arith)

-- the word of a reference field names an object
name_is : (k : Kind) (s : ℕ) (c : C.Cell) → is_number k ≡ false → C.name_c (field_by_kind k s) c ≡ c.word
name_is Number s c h = never (sym h)
name_is Alias s c h = refl
name_is Owned s c h = refl
name_is Pristine s c h = refl

module _ (p : Program) (ck : Checked p (notes p)) (W : World) (w : Well p (notes p) ck W) where
  held : Kept (structs_of p) (flat (scopes (notes p)) (frames_of W.tasks)) (mem W.memory)
  held = kept_sound (structs_of p) (flat (scopes (notes p)) (frames_of W.tasks)) (mem W.memory) w.base.sound

  abbrev now : ℕ → ℕ → List (Ty × List Ty)
  now i j = notes p (frame W i j).function (frame W i j).index

  types_now : (i j : ℕ) → current (now i j) ≡ scope p W i j
  types_now i j = ap (λ (ts : ℕ → ℕ → List Ty). ts (frame W i j).function (frame W i j).index) (notes_types p)

  entry : (i j x o : ℕ) → Refers p W i j x o
      → flat (scopes (notes p)) (frames_of W.tasks) (C.spot i j x) ≡ C.here (V.Reference o) (core (slot (scope p W i j) x)) (saved_at (now i j) x)
  entry i j x o r =
      ap (λ (fs : List Frame). entry_at (get_or fs j no_frame).slots (scopes (notes p) (get_or fs j no_frame).function (get_or fs j no_frame).index) x) (frames_at W.tasks i)
      ∙ entry_is (frame W i j).slots (now i j) x (subst (λ (ts : List Ty). x < length ts) (sym (types_now i j)) r.in_scope) (held_low (frame W i j).slots x o r.holds)
      ∙ ap₂ (λ (v : Slot) (ts : List Ty). C.here v (core (slot ts x)) (saved_at (now i j) x)) r.holds (types_now i j)

  pristine_entry : (i j x o : ℕ) → Refers p W i j x o → (slot (scope p W i j) x).kind ≡ Pristine
      → flat (scopes (notes p)) (frames_of W.tasks) (C.spot i j x)
      ≡ C.here (V.Reference o) (C.pt C.pristine (slot (scope p W i j) x).strukt (slot (scope p W i j) x).withheld) (saved_at (now i j) x)
  pristine_entry i j x o r e = entry i j x o r
      ∙ ap (λ (k : Kind). C.here (V.Reference o) (by_kind k (slot (scope p W i j) x).strukt (slot (scope p W i j) x).withheld) (saved_at (now i j) x)) e

  owner : (i j x o : ℕ) → Owns p W i j x o → C.own_e (flat (scopes (notes p)) (frames_of W.tasks) (C.spot i j x)) ≡ suc o
  owner i j x o r =
      let t = slot (scope p W i j) x in
      ap C.own_e (entry i j x o r.refers) ∙ owned_by t.kind t.strukt t.withheld (suc o) r.owning

  word_name : (q f o : ℕ) → Points p W.memory q f o
      → C.name_c ((structs_of p).field (object_at W.memory q).kind f) (record { word = (cell_at W.memory q f).word; mark = false; dead = false }) ≡ suc o
  word_name q f o r =
      let t = (declared p (object_at W.memory q).kind f).ty in
      name_is t.kind t.strukt (record { word = (cell_at W.memory q f).word; mark = false; dead = false }) r.reference ∙ r.holds

  pub named : Named p W
  named = record {
    slots = λ i j x o r.
        let t = slot (scope p W i j) x in
        (fits_struct (mem W.memory) o t.kind t.strukt t.withheld (held.fits (C.spot i j x) (V.Reference o) (core t) (saved_at (now i j) x) (entry i j x o r))).0;
    cells = λ q f o r. held.named q f o (word_name q f o r);
    one_owner = λ i j x i' j' x' o r r'.
        let s = slot_frame (held.no_clash (C.spot i j x) (C.spot i' j' x') o (owner i j x o r) (owner i' j' x' o r')) in
        (s.0.0, s.0.1, s.1);
    only_slot = λ i j x o r e i' j' x' r'.
        let t = slot (scope p W i j) x in
        let s = slot_frame (held.only_name (C.spot i j x) (C.spot i' j' x') o t.strukt t.withheld (saved_at (now i j) x) (pristine_entry i j x o r e) (ap C.name_e (entry i' j' x' o r'))) in
        (s.0.0, s.0.1, s.1);
    no_field = λ i j x o r e q f h.
        let t = slot (scope p W i j) x in
        held.no_field (C.spot i j x) o t.strukt t.withheld (saved_at (now i j) x) (pristine_entry i j x o r e) q f (word_name q f o h);
  }

pub names_stand : NamesStand
names_stand b p h v m W turns s =
    let f = program_stands b p h in
    let ck = accepted_checked p f.0 f.1 v in
    named p ck (runs p W turns) (reached p ck m W turns s)
