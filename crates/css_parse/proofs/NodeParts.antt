-- The texts of nodes as parts of the sheet.
use Rattle.std.proofs.Common.{◌≡◌, ℕ, zero, suc, ◌+◌, ◌-◌, ◌<◌, ◌≤◌, List, [], ◌∷◌, ◌++◌, length, take, drop, get_or, refl, ap, sym, ◌∙◌, subst, append-nil, take-append-drop, arith}
use Rattle.std.specs.Str.{chars, IsUtf8}
use Rattle.std.proofs.lemmas.Str.{chars-nil}
use Rattle.std.proofs.lemmas.List.{nil_from_length}
use Rattle.css_text.specs.Ahead.{byte_len}
use Rattle.css_text.specs.Shared.{part, IsPart}
use Rattle.css_text.specs.Characters.{is_space}
use Rattle.css_text.proofs.Slices.{IsSlice, slice_chars, slice_length}
use Rattle.css_tree.specs.Pieces.{Lexeme, join, end_of, last_end}
use Rattle.css_tree.proofs.Split.{hack, solid_by, tail_by, lead_by, unlead_by}
use Rattle.css_tree.proofs.Trim.{trim-all, lead-all}
use Rattle.css_tree.proofs.Printed.{join-append, join-cons, join-nil}
use Rattle.css_parse.specs.declared.gap.Gap.{Gap}
use Rattle.css_parse.specs.declared.mark.Mark.{Mark}
use Rattle.css_parse.specs.Marks.{IsIn}
use Rattle.css_parse.specs.Values.{IsValueLen}
use Rattle.css_parse.specs.Standing.{Stand, AreParts, gap_text, IsBehind}
use Rattle.css_parse.proofs.Ascii.{hack-all, hack-size}
use Rattle.css_parse.proofs.FieldTexts.{rest-from}
use Rattle.css_parse.proofs.Standing.{slice-part, IsCutIn, cut-in, cut-pieces, some-slice, head-rest, first-at, gap-text, gap-and}

-- A part that is to be made, and its characters.
pub record Made (bs : List ℕ) (start end : ℕ) (cs : List ℕ) : Type 0 where
  pub is_part : IsPart bs start end
  pub text : chars (part bs start end) ≡ cs

made : (bs : List ℕ) (start end : ℕ) (cs : List ℕ) → IsUtf8 bs → IsSlice bs start end cs → Made bs start end cs
made bs start end cs u s = record { is_part = slice-part bs start end cs s; text = slice_chars bs start end cs u s }

-- The text of pieces, of which that is the first.
pub text-made : (bs : List ℕ) (ps : List Lexeme) (d : Lexeme) (start end : ℕ) → 1 ≤ length ps → d ≡ get_or ps 0 d → start ≡ d.at → end ≡ last_end start ps → AreParts bs ps → Made bs start end (join ps)
text-made bs [] d start end l e s k h = absurd (omega arith)
text-made bs (p ∷ ps) d start end l e s k h =
    let q : start ≡ p.at = s ∙ ap (λ z. z.at) e in
    subst (λ z. Made bs z end (join (p ∷ ps))) (sym q) (subst (λ z. Made bs p.at z (join (p ∷ ps))) (sym k)
    (made bs p.at (last_end (end_of p) ps) (join (p ∷ ps)) h.is_sheet.utf8 (some-slice bs h.at p ps h.stand)))

-- a statement's first piece, and the others as code takes them
pub behind-split : (bs : List ℕ) (g : Gap) (ps : List Lexeme) (d : Lexeme) → 1 ≤ length ps → d ≡ get_or ps 0 d → IsBehind bs g ps → IsBehind bs g (d ∷ take (length ps - 1) (drop 1 ps))
behind-split bs g ps d l e h = subst (IsBehind bs g) (head-rest ps d (omega arith) e ∙ ap (λ z. d ∷ z) (sym (rest-from 1 ps))) h

-- The gap before a node.
pub gap-made : (bs : List ℕ) (g : Gap) (ps : List Lexeme) → IsBehind bs g ps → Made bs g.start g.end (gap_text bs g)
gap-made bs g ps h = record { is_part = h.gap; text = sym (gap-text bs g) }

-- A comment, from the byte a to the byte z: white space, its text, and white space.
pub record InComment (bs : List ℕ) (a z : ℕ) (inner : List ℕ) (l t : ℕ) : Type 0 where
  pub left : Made bs (a + 2) (a + 2 + l) (lead_by is_space inner)
  pub text : Made bs (a + 2 + l) (a + 2 + l + t) (solid_by is_space (unlead_by is_space inner))
  pub right : Made bs (a + 2 + l + t) (z - 2) (tail_by is_space (unlead_by is_space inner))
  pub few : a + 2 + l + t + 2 ≤ z
  pub short : z ≤ 67108864

in-comment_at : (bs : List ℕ) (g : Gap) (p : Lexeme) (inner : List ℕ) (l t : ℕ) → IsBehind bs g (p ∷ []) → p.text ≡ 47 ∷ 42 ∷ (inner ++ 42 ∷ 47 ∷ [])
    → l ≡ byte_len (lead_by is_space inner) → t ≡ byte_len (solid_by is_space (unlead_by is_space inner)) → InComment bs p.at (end_of p) inner l t
in-comment_at bs g p inner l t h e el et =
    let u = h.is_sheet.utf8 in
    let ends : List ℕ = 42 ∷ 47 ∷ [] in
    let a = cut-in bs p.at (end_of p) 2 p.text (47 ∷ 42 ∷ []) (inner ++ ends) u h.stand.1 e refl in
    let b = cut-in bs (p.at + 2) (end_of p) (byte_len inner) (inner ++ ends) inner ends u a.back refl refl in
    let size : p.at + 2 + byte_len inner + 2 ≡ end_of p = slice_length bs (p.at + 2 + byte_len inner) (end_of p) ends b.back in
    let stop : p.at + 2 + byte_len inner ≡ end_of p - 2 = omega (arith, size) in
    let c = cut-in bs (p.at + 2) (p.at + 2 + byte_len inner) l inner (lead_by is_space inner) (unlead_by is_space inner) u b.front (sym (lead-all is_space inner)) (sym el) in
    let d = cut-in bs (p.at + 2 + l) (p.at + 2 + byte_len inner) t (unlead_by is_space inner) (solid_by is_space (unlead_by is_space inner)) (tail_by is_space (unlead_by is_space inner)) u c.back (sym (trim-all is_space (unlead_by is_space inner))) (sym et) in
    let past : p.at + 2 + l + t ≤ p.at + 2 + byte_len inner = d.back.order in
    record {
      left = made bs (p.at + 2) (p.at + 2 + l) (lead_by is_space inner) u c.front;
      text = made bs (p.at + 2 + l) (p.at + 2 + l + t) (solid_by is_space (unlead_by is_space inner)) u d.front;
      right = subst (λ z. Made bs (p.at + 2 + l + t) z (tail_by is_space (unlead_by is_space inner))) stop (made bs (p.at + 2 + l + t) (p.at + 2 + byte_len inner) (tail_by is_space (unlead_by is_space inner)) u d.back);
      few = omega (arith, size, past);
      short = omega (arith, h.stand.1.fits, h.is_sheet.short);
    }

pub in-comment : (bs : List ℕ) (g : Gap) (p : Lexeme) (inner : List ℕ) (a z l t : ℕ) → IsBehind bs g (p ∷ []) → p.text ≡ 47 ∷ 42 ∷ (inner ++ 42 ∷ 47 ∷ [])
    → a ≡ p.at → z ≡ end_of p → l ≡ byte_len (lead_by is_space inner) → t ≡ byte_len (solid_by is_space (unlead_by is_space inner)) → InComment bs a z inner l t
in-comment bs g p inner a z l t h e ea ez el et =
    subst (λ x. InComment bs x z inner l t) (sym ea) (subst (λ x. InComment bs p.at x inner l t) (sym ez) (in-comment_at bs g p inner l t h e el et))

-- The name of an at-word.
pub in-at_word : (bs : List ℕ) (g : Gap) (p : Lexeme) (ps : List Lexeme) (a z : ℕ) → IsBehind bs g (p ∷ ps) → p.text ≡ 64 ∷ drop 1 p.text → a ≡ p.at + 1 → z ≡ end_of p → Made bs a z (drop 1 p.text)
in-at_word bs g p ps a z h e ea ez =
    rw (ea, ez) (made bs (p.at + 1) (end_of p) (drop 1 p.text) h.is_sheet.utf8 (cut-in bs p.at (end_of p) 1 p.text (64 ∷ []) (drop 1 p.text) h.is_sheet.utf8 h.stand.1 e refl).back)

-- A gap and a hack, and the property behind them.
pub record InProperty (bs : List ℕ) (g : Gap) (p : Lexeme) (h z : ℕ) : Type 0 where
  pub before : Made bs g.start h (gap_text bs g ++ hack p.text)
  pub prop : Made bs h z (drop (length (hack p.text)) p.text)

pub in-property : (bs : List ℕ) (g : Gap) (p : Lexeme) (ps : List Lexeme) (n z : ℕ) → IsBehind bs g (p ∷ ps) → n ≡ p.at + length (hack p.text) → z ≡ end_of p → InProperty bs g p n z
in-property bs g p ps n z h e ez =
    let u = h.is_sheet.utf8 in
    let k = length (hack p.text) in
    let c = cut-in bs p.at (end_of p) k p.text (hack p.text) (drop k p.text) u h.stand.1 (sym (hack-all p.text)) (hack-size p.text) in
    let b = gap-and bs g (p.at + k) (hack p.text) u h.gap (subst (λ z. IsSlice bs z (p.at + k) (hack p.text)) h.stand.0 c.front) in
    rw (e, ez) (record { before = record { is_part = b.0; text = b.1 }; prop = made bs (p.at + k) (end_of p) (drop k p.text) u c.back })

-- A value and its mark, which begins within a word.

take-len : (f x : List Lexeme) (m : ℕ) → m ≡ length f → take m (f ++ x) ≡ f
take-len f x m e = ap (λ z. take z (f ++ x)) e ∙ go f
  where
    go : (f : List Lexeme) → take (length f) (f ++ x) ≡ f
    go [] = refl
    go (y ∷ f) = ap (λ z. y ∷ z) (go f)

drop-len : (f x : List Lexeme) (w : Lexeme) (m : ℕ) → m ≡ length f → drop (m + 1) (f ++ w ∷ x) ≡ x
drop-len f x w m e = let k : m + 1 ≡ suc (length f) = omega (arith, e) in ap (λ z. drop z (f ++ w ∷ x)) k ∙ go f
  where
    go : (f : List Lexeme) → drop (suc (length f)) (f ++ w ∷ x) ≡ x
    go [] = refl
    go (y ∷ f) = go f

pub at-length : (f x : List Lexeme) (w d : Lexeme) (m : ℕ) → m ≡ length f → get_or (f ++ w ∷ x) m d ≡ w
at-length f x w d m e = ap (λ n. get_or (f ++ w ∷ x) n d) e ∙ go f
  where
    go : (f : List Lexeme) → get_or (f ++ w ∷ x) (length f) d ≡ w
    go [] = refl
    go (y ∷ f) = go f

-- the word that has it
pub mark-word : (m : Mark) (body : List Lexeme) (h : IsIn m body) (d : Lexeme) → get_or body m.before d ≡ h.word
mark-word m body h d = ap (λ z. get_or z m.before d) h.all ∙ at-length h.front h.back h.word d m.before h.place

pub mark-inside : (m : Mark) (body : List Lexeme) → IsIn m body → m.before < length body
mark-inside m body h = omega (arith, h.place, ap length h.all, long h.front h.word h.back)
  where
    long : (f : List Lexeme) (w : Lexeme) (x : List Lexeme) → length f < length (f ++ w ∷ x)
    long [] w x = omega arith
    long (y ∷ f) w x = omega (arith, long f w x)

none-left : (n k : ℕ) → k ≡ n → n - k ≡ 0
none-left n k e = omega arith

word-all : (m : Mark) (body : List Lexeme) (h : IsIn m body) → h.word.text ≡ chars m.word.front.now ++ chars m.word.back.now
word-all m body h = sym (take-append-drop h.n h.word.text) ∙ (ap (λ z. z ++ drop h.n h.word.text) (sym h.before) ∙ ap (λ z. chars m.word.front.now ++ z) (sym h.behind))

cut-value : (bs : List ℕ) (m : Mark) (body : List Lexeme) (p : AreParts bs body) (h : IsIn m body)
    → IsCutIn bs p.at (h.word.at + length m.word.front.now) (last_end p.at body) (join h.front ++ chars m.word.front.now) (chars m.word.back.now ++ join h.back)
cut-value bs m body p h =
    let n = length m.word.front.now in
    subst (λ z. IsCutIn bs p.at (h.word.at + n) (last_end p.at z) (join h.front ++ chars m.word.front.now) (chars m.word.back.now ++ join h.back)) (sym h.all)
    (cut-pieces bs p.at n h.front h.word h.back (chars m.word.front.now) (chars m.word.back.now) p.is_sheet.utf8 (subst (Stand bs p.at) h.all p.stand) (word-all m body h) (ap byte_len h.before ∙ sym h.size))

pub mark-small : (bs : List ℕ) (m : Mark) (body : List Lexeme) → AreParts bs body → (h : IsIn m body) → h.word.at + length m.word.front.now ≤ 67108864
mark-small bs m body p h = omega (arith, (cut-value bs m body p h).front.fits, p.is_sheet.short)

-- where the mark begins behind the first characters of its word
pub value-part : (bs : List ℕ) (m : Mark) (body : List Lexeme) (e at : ℕ) (d : Lexeme) → AreParts bs body → (h : IsIn m body) → IsValueLen e m body → 0 < length m.word.front.now
    → at ≡ h.word.at + length m.word.front.now → Made bs (get_or body 0 d).at at (join (take e body) ++ chars m.word.front.now)
value-part bs m body e at d p h l s k =
    let c = (cut-value bs m body p h).front in
    let f : take e body ≡ h.front = ap (λ z. take z body) (l.whole s) ∙ (ap (take m.before) h.all ∙ take-len h.front (h.word ∷ h.back) m.before h.place) in
    let b : (get_or body 0 d).at ≡ p.at = first-at bs p.at body d (omega (arith, mark-inside m body h)) p.stand in
    subst (λ z. Made bs z at (join (take e body) ++ chars m.word.front.now)) (sym b)
    (subst (λ z. Made bs p.at z (join (take e body) ++ chars m.word.front.now)) (sym k)
    (subst (λ z. Made bs p.at (h.word.at + length m.word.front.now) (join z ++ chars m.word.front.now)) (sym f) (made bs p.at (h.word.at + length m.word.front.now) _ p.is_sheet.utf8 c)))

end-at : (a b : ℕ) (ps : List Lexeme) → 0 < length ps → last_end a ps ≡ last_end b ps
end-at a b [] l = absurd (omega arith)
end-at a b (p ∷ ps) l = refl

pub mark-part : (bs : List ℕ) (m : Mark) (body : List Lexeme) (e at : ℕ) → AreParts bs body → (h : IsIn m body) → IsValueLen e m body → 0 < length m.word.front.now
    → at ≡ h.word.at + length m.word.front.now
    → Made bs at (last_end at body) (join (take (m.before - e) (drop e body)) ++ (chars m.word.back.now ++ join (drop (m.before + 1) body)))
mark-part bs m body e at p h l s k =
    let c = (cut-value bs m body p h).back in
    let z : join (take (m.before - e) (drop e body)) ≡ [] = ap (λ n. join (take n (drop e body))) (none-left m.before e (l.whole s)) ∙ join-nil in
    let b : drop (m.before + 1) body ≡ h.back = ap (drop (m.before + 1)) h.all ∙ drop-len h.front h.back h.word m.before h.place in
    let t : chars m.word.back.now ++ join h.back ≡ join (take (m.before - e) (drop e body)) ++ (chars m.word.back.now ++ join (drop (m.before + 1) body)) =
    ap (λ x. chars m.word.back.now ++ join x) (sym b) ∙ ap (λ x. x ++ (chars m.word.back.now ++ join (drop (m.before + 1) body))) (sym z) in
    let q : Made bs (h.word.at + length m.word.front.now) (last_end p.at body) (chars m.word.back.now ++ join h.back) = made bs _ _ _ p.is_sheet.utf8 c in
    subst (Made bs at (last_end at body)) t
    (subst (λ x. Made bs x (last_end x body) (chars m.word.back.now ++ join h.back)) (sym k)
    (subst (λ x. Made bs (h.word.at + length m.word.front.now) x (chars m.word.back.now ++ join h.back)) (end-at p.at (h.word.at + length m.word.front.now) body (omega (arith, mark-inside m body h))) q))

-- where its word begins with it
no-front : (bytes : List ℕ) → length bytes < 1 → chars bytes ≡ []
no-front bytes l = ap chars (nil_from_length bytes (omega arith)) ∙ chars-nil

pub bare-value : (m : Mark) (body : List Lexeme) (e : ℕ) → length m.word.front.now < 1 → join (take e body) ≡ join (take e body) ++ chars m.word.front.now
bare-value m body e z = sym (ap (λ x. join (take e body) ++ x) (no-front m.word.front.now z) ∙ append-nil (join (take e body)))

drop-front : (e : ℕ) (f x : List Lexeme) (m : ℕ) → e ≤ length f → m ≡ length f → (drop e (f ++ x) ≡ drop e f ++ x) × (take (m - e) (drop e (f ++ x)) ≡ drop e f)
drop-front e f x m l k = (drops e f l, ap (take (m - e)) (drops e f l) ∙ take-len (drop e f) x (m - e) (size e f m l k))
  where
    drops : (e : ℕ) (f : List Lexeme) → e ≤ length f → drop e (f ++ x) ≡ drop e f ++ x
    drops zero f l = refl
    drops (suc e) [] l = absurd (omega arith)
    drops (suc e) (y ∷ f) l = drops e f (omega arith)

    size : (e : ℕ) (f : List Lexeme) (m : ℕ) → e ≤ length f → m ≡ length f → m - e ≡ length (drop e f)
    size zero f m l k = omega (arith, k)
    size (suc e) [] m l k = absurd (omega arith)
    size (suc e) (y ∷ f) m l k = let i = size e f (length f) (omega arith) refl in omega (arith, k, i)

pub bare-mark : (m : Mark) (body : List Lexeme) (e : ℕ) → (h : IsIn m body) → IsValueLen e m body → length m.word.front.now < 1
    → join (drop e body) ≡ join (take (m.before - e) (drop e body)) ++ (chars m.word.back.now ++ join (drop (m.before + 1) body))
bare-mark m body e h l z =
    let k = drop-front e h.front (h.word ∷ h.back) m.before (omega (arith, l.within, h.place)) h.place in
    let d : drop e body ≡ drop e h.front ++ h.word ∷ h.back = ap (drop e) h.all ∙ k.0 in
    let t : take (m.before - e) (drop e body) ≡ drop e h.front = ap (λ x. take (m.before - e) (drop e x)) h.all ∙ k.1 in
    let b : drop (m.before + 1) body ≡ h.back = ap (drop (m.before + 1)) h.all ∙ drop-len h.front h.back h.word m.before h.place in
    let w : h.word.text ≡ chars m.word.back.now = word-all m body h ∙ ap (λ x. x ++ chars m.word.back.now) (no-front m.word.front.now z) in
    ap join d ∙ (join-append (drop e h.front) (h.word ∷ h.back) ∙ (ap (λ x. join (drop e h.front) ++ x) (join-cons h.word h.back ∙ (ap (λ x. x ++ join h.back) w ∙ ap (λ x. chars m.word.back.now ++ join x) (sym b)))
    ∙ ap (λ x. join x ++ (chars m.word.back.now ++ join (drop (m.before + 1) body))) (sym t)))
