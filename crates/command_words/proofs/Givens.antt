-- What is read before the rest of a list.
use Rattle.std.proofs.Common.{◌≡◌, List, [], ◌∷◌, ◌++◌, Option, Some, None, refl, ap, sym, append_assoc}
use Rattle.std.specs.Option.{option_map}

-- what is given behind what there is
abbrev pub behind : {A : Type 0} → List A → Option (List A) → Option (List A)
behind xs o = option_map (λ rest. xs ++ rest) o

pub behind_more : {A : Type 0} (xs : List A) (x : A) (o : Option (List A)) → behind xs (option_map (λ rest. x ∷ rest) o) ≡ behind (xs ++ x ∷ []) o
behind_more xs x None = refl
behind_more xs x (Some rest) = ap (λ z. Some z) (sym (append_assoc xs (x ∷ []) rest))
