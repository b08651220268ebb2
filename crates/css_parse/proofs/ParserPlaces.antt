-- Where the parser stands in the sheet.
use Rattle.std.proofs.Common.{◌≡◌, ℕ, List, [], ◌∷◌, ◌++◌, Bool, ap, sym, ◌∙◌, subst, refl, reverse}
use Rattle.std.specs.Str.{IsCharBoundary}
use Rattle.std.proofs.lemmas.List.{reverse-append}
use Rattle.css_text.specs.Shared.{IsPart}
use Rattle.node_rows.specs.declared.node_list.NodeAt.{NodeAt}
use Rattle.css_tree.specs.Pieces.{Lexeme, end_of, last_end}
use Rattle.css_parse.specs.declared.gap.Gap.{Gap}
use Rattle.css_parse.specs.declared.parser.Parser.{Parser}
use Rattle.css_parse.specs.declared.turn.Frame.{Frame}
use Rattle.css_parse.specs.Machine.{Machine}
use Rattle.css_parse.specs.Model.{IsUpTo, IsNext}
use Rattle.css_parse.specs.Standing.{sheet, gap_text, IsBehind, Stand}
use Rattle.css_parse.proofs.Standing.{gap, gap-more, gap-empty, behind-more, part-empty, stand-snoc, end-snoc}

-- the gap, the statement in progress and the next piece
pub next-behind : (bs : List ℕ) (p : Parser) (q : Lexeme) → IsNext bs p q → IsBehind bs p.gap (p.run ++ q ∷ [])
next-behind bs p q h =
    let b = h.up_to.behind in
    record { is_sheet = b.is_sheet; gap = b.gap; stand = stand-snoc bs p.gap.end p.run q b.stand (sym h.up_to.end) h.slice }

pub next-idle : (bs : List ℕ) (p : Parser) (q : Lexeme) → IsNext bs p q → p.run ≡ [] → IsBehind bs p.gap (q ∷ [])
next-idle bs p q h e = subst (λ r. IsBehind bs p.gap (r ++ q ∷ [])) e (next-behind bs p q h)

-- nothing behind the next piece
pub next-empty : (bs : List ℕ) (p : Parser) (q : Lexeme) → IsNext bs p q → IsBehind bs (gap (end_of q) (end_of q)) []
next-empty bs p q h = record { is_sheet = h.up_to.behind.is_sheet; gap = part-empty bs (end_of q) h.slice.high; stand = tt }

-- What a step leaves: one more piece in progress, one more in the gap, or neither gap nor statement.

pub up-to-run : (bs : List ℕ) (p s : Parser) (q : Lexeme) → IsNext bs p q → s.texts ≡ p.texts → s.gap ≡ p.gap → s.run ≡ p.run ++ q ∷ [] → IsUpTo bs s (end_of q)
up-to-run bs p s q h t g r = record {
  same = ap sheet t ∙ h.up_to.same;
  behind = subst (λ z. IsBehind bs z s.run) (sym g) (subst (IsBehind bs p.gap) (sym r) (next-behind bs p q h));
  end = ap (λ z. last_end z.end s.run) g ∙ (ap (last_end p.gap.end) r ∙ end-snoc p.gap.end p.run q);
}

pub up-to-gap : (bs : List ℕ) (p s : Parser) (q : Lexeme) → IsNext bs p q → p.run ≡ [] → s.texts ≡ p.texts → s.gap ≡ gap p.gap.start (end_of q) → s.run ≡ [] → IsUpTo bs s (end_of q)
up-to-gap bs p s q h e t g r = record {
  same = ap sheet t ∙ h.up_to.same;
  behind = subst (λ z. IsBehind bs z s.run) (sym g) (subst (IsBehind bs (gap p.gap.start (end_of q))) (sym r) (behind-more bs p.gap q [] (next-idle bs p q h e)));
  end = ap (λ z. last_end z.end s.run) g ∙ ap (last_end (end_of q)) r;
}

pub up-to-none : (bs : List ℕ) (p s : Parser) (q : Lexeme) → IsNext bs p q → s.texts ≡ p.texts → s.gap ≡ gap (end_of q) (end_of q) → s.run ≡ [] → IsUpTo bs s (end_of q)
up-to-none bs p s q h t g r = record {
  same = ap sheet t ∙ h.up_to.same;
  behind = subst (λ z. IsBehind bs z s.run) (sym g) (subst (IsBehind bs (gap (end_of q) (end_of q))) (sym r) (next-empty bs p q h));
  end = ap (λ z. last_end z.end s.run) g ∙ ap (last_end (end_of q)) r;
}

-- the gap with the next piece
pub next-gap : (bs : List ℕ) (p : Parser) (q : Lexeme) (g : Gap) → IsNext bs p q → p.run ≡ [] → g ≡ gap p.gap.start (end_of q) → gap_text bs g ≡ gap_text bs p.gap ++ q.text
next-gap bs p q g h e k = ap (gap_text bs) k ∙ gap-more bs p.gap q [] (next-idle bs p q h e)

-- the empty gap
pub no-gap : (bs : List ℕ) (at : ℕ) (g : Gap) → g ≡ gap at at → gap_text bs g ≡ []
no-gap bs at g k = ap (gap_text bs) k ∙ gap-empty bs at

pub machine-is : (ns ms : List NodeAt) (i j : ℕ) (a b : Bool) (fs gs : List Frame) (t u : List ℕ) (r q w v : List Lexeme) → ns ≡ ms → i ≡ j → a ≡ b → fs ≡ gs → t ≡ u → r ≡ q → w ≡ v
    → ◌≡◌ {A = Machine} (record { nodes = ns; number = i; semicolon = a; frames = fs; gap = t; run = r; awaited = w }) (record { nodes = ms; number = j; semicolon = b; frames = gs; gap = u; run = q; awaited = v })
machine-is ns ms i j a b fs gs t u r q w v e1 e2 e3 e4 e5 e6 e7 = rw (e1, e2, e3, e4, e5, e6, e7) refl

-- at a boundary with neither gap nor statement
pub up-to-here : (bs : List ℕ) (p : Parser) (from : ℕ) (s : Parser) (at : ℕ) → IsUpTo bs p from → IsCharBoundary bs at → s.texts ≡ p.texts → s.gap ≡ gap at at → s.run ≡ [] → IsUpTo bs s at
up-to-here bs p from s at h b t g r = record {
  same = ap sheet t ∙ h.same;
  behind = record {
    is_sheet = h.behind.is_sheet;
    gap = subst (λ z. IsPart bs z.start z.end) (sym g) (part-empty bs at b);
    stand = subst (Stand bs s.gap.end) (sym r) tt;
  };
  end = ap (last_end s.gap.end) r ∙ ap (λ z. z.end) g;
}

-- one more container around
pub framed : (fs gs : List Frame) (number : ℕ) (o q : Lexeme) → gs ≡ fs ++ record { number = number; opening = o } ∷ [] → o ≡ q → reverse gs ≡ record { number = number; opening = q } ∷ reverse fs
framed fs gs number o q e k = ap reverse e ∙ (reverse-append fs (record { number = number; opening = o } ∷ []) ∙ ap (λ z. record { number = number; opening = z } ∷ reverse fs) k)
