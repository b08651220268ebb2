-- The head of a run, a piece at a time.
use Rattle.std.proofs.Common.{◌≡◌, List, [], ◌∷◌, ◌++◌, refl, ◌∙◌, ap}
use Rattle.css_parse.specs.declared.run.Head.{Head}
use Rattle.css_parse.specs.declared.run.Head.TheVariants.{Blank, Colon, Other}
use Rattle.css_tree.specs.Pieces.{Lexeme, Shape, shape}
use Rattle.css_tree.specs.Turn.{colon_next, colon_by}
use Rattle.css_parse.specs.Head.{head_by, head_step, then_head, head_of, behind, is_colon}

then-step : (a h : Head) (s : Shape) → then_head a (head_step h s) ≡ head_step (then_head a h) s
then-step Blank h s = refl
then-step Colon h s = refl
then-step Other h s = refl

blank-last : (h : Head) → then_head h Blank ≡ h
blank-last Blank = refl
blank-last Colon = refl
blank-last Other = refl

pub head-snoc : (ps : List Lexeme) (p : Lexeme) → head_of (ps ++ p ∷ []) ≡ head_step (head_of ps) (shape p)
unfolding head_of
head-snoc [] p = blank-last (head_by (shape p))
head-snoc (q ∷ ps) p = ap (λ z. then_head (head_by (shape q)) z) (head-snoc ps p) ∙ then-step (head_by (shape q)) (head_of ps) (shape p)

pub head-first : (p : Lexeme) → head_of (behind ([] ++ p ∷ [])) ≡ Blank
unfolding head_of
head-first p = refl

pub head-more : (ps : List Lexeme) (p : Lexeme) → (ps ≡ [] → ⊥) → head_of (behind (ps ++ p ∷ [])) ≡ head_step (head_of (behind ps)) (shape p)
head-more [] p e = absurd (e refl)
head-more (q ∷ ps) p e = head-snoc ps p

colon-by : (s : Shape) (h : Head) → colon_by s (is_colon h) ≡ is_colon (then_head (head_by s) h)
colon-by Shape.space h = refl
colon-by Shape.comment h = refl
colon-by Shape.colon h = refl
colon-by _ h = refl

pub colon-head : (ps : List Lexeme) → colon_next ps ≡ is_colon (head_of ps)
unfolding colon_next head_of
colon-head [] = refl
colon-head (p ∷ ps) = ap (λ z. colon_by (shape p) z) (colon-head ps) ∙ colon-by (shape p) (head_of ps)

pub ruleset head_steps = (head-snoc, head-first, head-more, colon-head)
