-- Lines that are written one by one.
use Rattle.std.proofs.Common.{◌≡◌, ℕ, ◌+◌, ◌<◌, List, [], ◌∷◌, ◌++◌, length, get_or, take, codes, decimal, sym, ap, ◌∙◌}
use Rattle.std.proofs.lemmas.List.{append-nil, append_assoc, take_more}
use Rattle.rehearsing.specs.Reports.{lines}

lines_push : (ns : List ℕ) (n : ℕ) → lines (ns ++ (n ∷ [])) ≡ lines ns ++ (decimal n ++ codes "\n")
lines_push [] n = append-nil (decimal n ++ codes "\n")
lines_push (k ∷ ns) n = ap (λ (l : List ℕ). (decimal k ++ codes "\n") ++ l) (lines_push ns n) ∙ sym (append_assoc (decimal k ++ codes "\n") (lines ns) (decimal n ++ codes "\n"))

pub lines_more : (ns : List ℕ) (i : ℕ) → i < length ns → lines (take i ns) ++ (decimal (get_or ns i 0) ++ codes "\n") ≡ lines (take (i + 1) ns)
lines_more ns i l = sym (ap lines (take_more ns i 0 l) ∙ lines_push (take i ns) (get_or ns i 0))
