-- What the kind of a piece says of its characters.
use Rattle.std.specs.Prelude.{◌≡◌, ◌<◌, ℕ, true, false, List, [], ◌∷◌, ◌++◌, length}
use Rattle.css_text.specs.declared.lexer.PieceKind.{PieceKind}
use Rattle.css_text.specs.declared.lexer.PieceKind.TheVariants.{Space, Comment, Quoted, Url, AtWord, Word, Single}
use Rattle.css_text.specs.Characters.{is_quote, is_single, ends_word}
use Rattle.css_text.specs.Forms.{begins_with, space_len, url_open}
use Rattle.css_text.specs.Pieces.{Token}

abbrev pub EndsWith : List ℕ → List ℕ → Type 0
EndsWith ending t = (front : List ℕ) × (t ≡ front ++ ending)

abbrev pub IsOfKind : PieceKind → List ℕ → Type 0
IsOfKind Space t = space_len t ≡ length t
IsOfKind Comment t = (inner : List ℕ) × (t ≡ 47 ∷ 42 ∷ (inner ++ 42 ∷ 47 ∷ []))
IsOfKind Quoted t = (quote : ℕ) × (inner : List ℕ) × (is_quote quote ≡ true) × (t ≡ quote ∷ (inner ++ quote ∷ []))
IsOfKind Url t = (begins_with url_open t ≡ true) × EndsWith (41 ∷ []) t
IsOfKind AtWord t = (name : List ℕ) × (t ≡ 64 ∷ name)
IsOfKind Single t = (c : ℕ) × (is_single c ≡ true) × (t ≡ c ∷ [])
IsOfKind Word t = (c : ℕ) × (cs : List ℕ) × (ends_word c ≡ false) × (t ≡ c ∷ cs)

-- no piece is empty, and each is of its kind
abbrev pub AreOfKinds : List Token → Type 0
AreOfKinds [] = Unit {0}
AreOfKinds (t ∷ ts) = (0 < length t.text) × IsOfKind t.kind t.text × AreOfKinds ts
