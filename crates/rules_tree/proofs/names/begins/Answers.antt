use Rattle.std.proofs.Common.{◌≡◌, ℕ, ◌<◌, List, [], ◌∷◌, Bool, false, eqb, get_or, refl, sym, ap, ◌∙◌, arith}
use Rattle.std.specs.Str.{chars, IsUtf8}
use Rattle.std.proofs.lemmas.Bool.{ne_eqb}
use Rattle.std.proofs.lemmas.Str.{encodes-chars}
use Rattle.css_text.specs.Forms.{begins}
use Rattle.css_text.proofs.Bytes.{begins-bytes}
use Rattle.rules_tree.proofs.names.begins.Goals as goal

front : (bs : List ℕ) (k : ℕ) → 0 < k → eqb (get_or bs 0 0) k ≡ begins k bs
front [] k h = ne_eqb 0 k (λ e. omega arith)
front (c ∷ cs) k h = refl

first_is : (bs : List ℕ) (k n : ℕ) → k < 128 → 0 < k → IsUtf8 bs → n ≡ get_or bs 0 0 → eqb n k ≡ begins k (chars bs)
first_is bs k n h p u e = ap (λ z. eqb z k) e ∙ (front bs k p ∙ (ap (begins k) (sym (encodes-chars bs u)) ∙ begins-bytes k (chars bs) h))

pub returns : goal.returns
returns c = first_is c.args.text.now c.args.first _ c.requires.low c.requires.some c.utf8.text (c.byte_at.ensures ∙ ap (λ b. get_or b 0 0) c.as_bytes.ensures.value)
