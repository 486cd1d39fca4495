-- Threads of frames, and the slots in scope of all of them as one flat configuration.
use Rattle.std.specs.Prelude.{◌≡◌, ℕ, zero, suc, ◌⊎◌, List, [], ◌∷◌, slice_index_or, slice_set}
use Rattle.machine.specs.declared.threads.Slot.{Slot}
use Rattle.machine.specs.declared.threads.Frame.{Frame}
use Rattle.machine.specs.World.{no_frame}
use Rattle.safety.specs.Model.{Claim, spot, Slots, Entry, out, here}

-- what the rules say is in scope before a record of a function: for each slot its type, and the types that come back
abbrev pub Scopes : Type 0
Scopes = ℕ → ℕ → List (List Claim)

abbrev pub typed : Slot → List Claim → Entry
typed v [] = out
typed v (t ∷ ts) = here v t ts

abbrev pub entry_at : List Slot → List (List Claim) → ℕ → Entry
entry_at [] sc k = out
entry_at (v ∷ vs) [] k = out
entry_at (v ∷ vs) (ts ∷ sc) zero = typed v ts
entry_at (v ∷ vs) (ts ∷ sc) (suc k) = entry_at vs sc k

abbrev pub frame_at : List (List Frame) → ℕ → ℕ → Frame
frame_at M i j = slice_index_or (slice_index_or M i []) j no_frame

abbrev pub put_frame : List (List Frame) → ℕ → ℕ → Frame → List (List Frame)
put_frame M i j F = slice_set M i (slice_set (slice_index_or M i []) j F)

-- every slot of every frame of every thread
abbrev pub flat : Scopes → List (List Frame) → Slots
flat S M (spot i j k) = entry_at (frame_at M i j).slots (S (frame_at M i j).function (frame_at M i j).index) k

-- a scope that is left of another at the end of blocks: slots dropped from the end, types popped
abbrev pub Suffix : List Claim → List Claim → Type 0
Suffix [] us = [] ≡ us
Suffix (t ∷ ts) us = (t ∷ ts ≡ us) ⊎ Suffix ts us

abbrev pub FallsSc : List (List Claim) → List (List Claim) → Type 0
FallsSc res [] = Unit {0}
FallsSc [] (us ∷ sc) = ⊥
FallsSc (ts ∷ res) (us ∷ sc) = Suffix ts us × FallsSc res sc

-- the frame (i, j) goes to a record, with other values
abbrev pub advance : List (List Frame) → ℕ → ℕ → ℕ → List Slot → List (List Frame)
advance M i j index' vs = put_frame M i j (record { function = (frame_at M i j).function; index = index'; slots = vs })
