-- The text of a refusal.
use Rattle.std.specs.Prelude.{ℕ, List, ◌++◌, codes, decimal}
use Rattle.table.specs.declared.fault.Layer.{Layer}
use Rattle.table.specs.declared.fault.Layer.TheVariants.{File, Rules, Run}
use Rattle.table.specs.declared.fault.Place.{Place}
use Rattle.table.specs.declared.fault.Place.TheVariants.{Nothing, Byte, Record, Thread}
use Rattle.table.specs.declared.fault.Fault.{Fault}

abbrev pub layer_text : Layer → List ℕ
layer_text File = codes "file"
layer_text Rules = codes "rules"
layer_text Run = codes "run"

-- what a place names, behind the layer
abbrev pub place_text : ℕ → Layer → Place → List ℕ
place_text n l Nothing = codes "refused " ++ (decimal n ++ (codes " " ++ layer_text l))
place_text n l (Byte b) = codes "refused " ++ (decimal n ++ (codes " " ++ (layer_text l ++ (codes " byte " ++ decimal b))))
place_text n l (Record k i) =
    codes "refused " ++ (decimal n ++ (codes " " ++ (layer_text l ++ (codes " function " ++ (decimal k ++ (codes " record " ++ decimal i))))))
place_text n l (Thread t) = codes "refused " ++ (decimal n ++ (codes " " ++ (layer_text l ++ (codes " thread " ++ decimal t))))

abbrev pub fault_text : Fault → List ℕ
fault_text f = place_text f.number f.layer f.place
