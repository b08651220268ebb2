-- Each piece is of its kind.
use Rattle.std.proofs.Common.{◌≡◌, ℕ, zero, suc, ◌+◌, Bool, true, false, cond, eqb, List, [], ◌∷◌, length, take, drop, Option, Some, None, Result, Ok, Err, refl, ap, ◌∙◌, one-add, zero-add, arith}
use Rattle.std.specs.Prelude.{◌&&◌}
use Rattle.std.specs.Option.{option_map}
use Rattle.std.specs.Char.{to_ascii_lowercase}
use Rattle.std.proofs.lemmas.Bool.{eqb-true, false≢true, and_parts}
use Rattle.css_text.specs.declared.lexer.PieceKind.{PieceKind}
use Rattle.css_text.specs.declared.lexer.PieceKind.TheVariants.{Space, Comment, Quoted, Url, Word}
use Rattle.css_text.specs.Characters.{is_space, is_quote, is_single, ends_word}
use Rattle.css_text.specs.Forms.{begins, begins_with, begins_url, url_open, space_len, unit_len, through, through_comment}
use Rattle.css_text.specs.Pieces.{Unclosed, string, comment, url, closed, first, cut_first, cut_after, cut}
use Rattle.css_text.specs.PieceKinds.{EndsWith, IsOfKind, AreOfKinds}

spaces_go : (c : ℕ) (n : ℕ) (cs : List ℕ) (b : Bool) → is_space c ≡ b → space_len (take n cs) ≡ length (take n cs) → n ≡ space_len cs → space_len (take (cond b (1 + n) 0) (c ∷ cs)) ≡ length (take (cond b (1 + n) 0) (c ∷ cs))
spaces_go c n cs true e ih s = rw (one-add n, e, ih) (omega arith)
spaces_go c n cs false e ih s = refl

-- a longest run of white space is white space
pub spaces_are : (cs : List ℕ) → space_len (take (space_len cs) cs) ≡ length (take (space_len cs) cs)
spaces_are [] = refl
spaces_are (c ∷ cs) = spaces_go c (space_len cs) cs (is_space c) refl (spaces_are cs) refl

-- what is looked for stands at the end
abbrev Found : List ℕ → List ℕ → Option ℕ → Type 0
Found ending s None = Unit {0}
Found ending s (Some n) = EndsWith ending (take n s)

found-suc : (ending : List ℕ) (c : ℕ) (cs : List ℕ) (o : Option ℕ) → Found ending cs o → Found ending (c ∷ cs) (option_map suc o)
found-suc ending c cs None h = tt
found-suc ending c cs (Some n) h = (c ∷ h.0, ap (λ x. c ∷ x) h.1)

found-cond : (ending s : List ℕ) (b : Bool) (o p : Option ℕ) → (b ≡ true → Found ending s o) → Found ending s p → Found ending s (cond b o p)
found-cond ending s true o p f g = f refl
found-cond ending s false o p f g = g

through-ends : (q : ℕ) (hidden : Bool) (s : List ℕ) → Found (q ∷ []) s (through q hidden s)
through-ends q hidden [] = tt
through-ends q true (c ∷ cs) = found-suc (q ∷ []) c cs (through q false cs) (through-ends q false cs)
through-ends q false (c ∷ cs) = found-cond (q ∷ []) (c ∷ cs) (eqb c q) (Some 1) (option_map suc (through q (eqb c 92) cs)) (λ e. ([], ap (λ x. x ∷ []) (eqb-true c q e)))
    (found-suc (q ∷ []) c cs (through q (eqb c 92) cs) (through-ends q (eqb c 92) cs))

star_slash : (c : ℕ) (cs : List ℕ) → (eqb c 42 && begins 47 cs) ≡ true → EndsWith (42 ∷ 47 ∷ []) (take 2 (c ∷ cs))
star_slash c [] e = absurd (false≢true ((and_parts (eqb c 42) (begins 47 []) e).1))
star_slash c (d ∷ ds) e = let p = and_parts (eqb c 42) (begins 47 (d ∷ ds)) e in ([], rw (eqb-true c 42 p.0, eqb-true d 47 p.1) refl)

comment-ends : (s : List ℕ) → Found (42 ∷ 47 ∷ []) s (through_comment s)
comment-ends [] = tt
comment-ends (c ∷ cs) = found-cond (42 ∷ 47 ∷ []) (c ∷ cs) (eqb c 42 && begins 47 cs) (Some 2) (option_map suc (through_comment cs)) (star_slash c cs) (found-suc (42 ∷ 47 ∷ []) c cs (through_comment cs) (comment-ends cs))

-- the characters of an answer
abbrev Says : ℕ → List ℕ → Result (PieceKind × ℕ) Unclosed → Type 0
Says c cs (Ok p) = IsOfKind p.0 (c ∷ take p.1 cs)
Says c cs (Err u) = Unit {0}

says-cond : (c : ℕ) (cs : List ℕ) (b : Bool) (x y : Result (PieceKind × ℕ) Unclosed) → (b ≡ true → Says c cs x) → (b ≡ false → Says c cs y) → Says c cs (cond b x y)
says-cond c cs true x y f g = f refl
says-cond c cs false x y f g = g refl

space_says : (c : ℕ) (cs : List ℕ) → is_space c ≡ true → IsOfKind Space (c ∷ take (space_len cs) cs)
space_says c cs e = rw (e, spaces_are cs) (omega arith)

comment_by : (c : ℕ) (ds : List ℕ) (o : Option ℕ) → c ≡ 47 → Found (42 ∷ 47 ∷ []) ds o → Says c (42 ∷ ds) (closed Comment 1 o comment)
comment_by c ds None e h = tt
comment_by c ds (Some n) e h = (h.0, rw (one-add n, e, h.1) refl)

comment_says : (c : ℕ) (cs : List ℕ) → (eqb c 47 && begins 42 cs) ≡ true → Says c cs (closed Comment 1 (through_comment (drop 1 cs)) comment)
comment_says c [] e = absurd (false≢true ((and_parts (eqb c 47) (begins 42 []) e).1))
comment_says c (d ∷ ds) e = let p = and_parts (eqb c 47) (begins 42 (d ∷ ds)) e in rw (eqb-true d 42 p.1) (comment_by c ds (through_comment ds) (eqb-true c 47 p.0) (comment-ends ds))

quoted_says : (c : ℕ) (cs : List ℕ) (o : Option ℕ) → is_quote c ≡ true → Found (c ∷ []) cs o → Says c cs (closed Quoted 0 o string)
quoted_says c cs None e h = tt
quoted_says c cs (Some n) e h = (c, h.0, e, rw (zero-add n, h.1) refl)

three : (n : ℕ) → 3 + n ≡ suc (suc (suc n))
three n = omega arith

url_by : (c x y z : ℕ) (ds : List ℕ) (o : Option ℕ) → begins_with url_open (c ∷ x ∷ y ∷ z ∷ ds) ≡ true → Found (41 ∷ []) ds o → Says c (x ∷ y ∷ z ∷ ds) (closed Url 3 o url)
url_by c x y z ds None e h = tt
url_by c x y z ds (Some n) e h =
    let more : take (3 + n) (x ∷ y ∷ z ∷ ds) ≡ x ∷ y ∷ z ∷ take n ds = ap (λ k. take k (x ∷ y ∷ z ∷ ds)) (three n) in
    (ap (λ t. begins_with url_open (c ∷ t)) more ∙ e, (c ∷ x ∷ y ∷ z ∷ h.0, ap (λ t. c ∷ t) more ∙ ap (λ t. c ∷ x ∷ y ∷ z ∷ t) h.1))

after_first : (p c : ℕ) (ps cs : List ℕ) → begins_with (p ∷ ps) (c ∷ cs) ≡ true → begins_with ps cs ≡ true
after_first p c ps cs e = (and_parts (eqb (to_ascii_lowercase c) p) (begins_with ps cs) e).1

url_says : (c : ℕ) (cs : List ℕ) → begins_with url_open (c ∷ cs) ≡ true → Says c cs (closed Url 3 (through 41 false (drop 3 cs)) url)
url_says c [] e = absurd (false≢true (after_first 117 c (114 ∷ 108 ∷ 40 ∷ []) [] e))
url_says c (x ∷ []) e = absurd (false≢true (after_first 114 x (108 ∷ 40 ∷ []) [] (after_first 117 c (114 ∷ 108 ∷ 40 ∷ []) (x ∷ []) e)))
url_says c (x ∷ y ∷ []) e = absurd (false≢true (after_first 108 y (40 ∷ []) [] (after_first 114 x (108 ∷ 40 ∷ []) (y ∷ []) (after_first 117 c (114 ∷ 108 ∷ 40 ∷ []) (x ∷ y ∷ []) e))))
url_says c (x ∷ y ∷ z ∷ ds) e = url_by c x y z ds (through 41 false ds) e (through-ends 41 false ds)

word_says : (c : ℕ) (cs : List ℕ) (n : ℕ) → is_space c ≡ false → is_quote c ≡ false → eqb c 64 ≡ false → is_single c ≡ false → IsOfKind Word (c ∷ take n cs)
unfolding ends_word
word_says c cs n a b d e = (c, take n cs, rw (a, b, e, d) refl, refl)

first_says : (c : ℕ) (cs : List ℕ) → Says c cs (first c cs)
unfolding first begins_url
first_says c cs =
    says-cond c cs (is_space c) _ _ (space_says c cs) (λ a.
    says-cond c cs (eqb c 47 && begins 42 cs) _ _ (comment_says c cs) (λ _.
    says-cond c cs (is_quote c) _ _ (λ e. quoted_says c cs (through c false cs) e (through-ends c false cs)) (λ b.
    says-cond c cs (begins_url (c ∷ cs)) _ _ (λ e. url_says c cs (and_parts (begins_with url_open (c ∷ cs)) _ e).0) (λ _.
    says-cond c cs (eqb c 64) _ _ (λ e. (take (unit_len false cs) cs, ap (λ x. x ∷ take (unit_len false cs) cs) (eqb-true c 64 e))) (λ d.
    says-cond c cs (is_single c) _ _ (λ e. (c, e, refl)) (λ e. word_says c cs (unit_len (eqb c 92) cs) a b d e))))))

kinds_first : (c : ℕ) (cs : List ℕ) (r : Result (PieceKind × ℕ) Unclosed) → Says c cs r → ((n : ℕ) → AreOfKinds (cut_after n cs).tokens) → AreOfKinds (cut_first r c cs (λ n. cut_after n cs)).tokens
kinds_first c cs (Ok p) h ih = (omega arith, h, ih p.1)
kinds_first c cs (Err u) h ih = tt

kinds_after : (s : List ℕ) (k : ℕ) → AreOfKinds (cut_after k s).tokens
kinds_after [] zero = tt
kinds_after [] (suc k) = tt
kinds_after (c ∷ cs) (suc k) = kinds_after cs k
kinds_after (c ∷ cs) zero = kinds_first c cs (first c cs) (first_says c cs) (kinds_after cs)

pub cut_kinds : (s : List ℕ) → AreOfKinds (cut s).tokens
unfolding cut
cut_kinds s = kinds_after s 0
