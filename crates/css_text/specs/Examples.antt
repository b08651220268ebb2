-- The pieces of small texts, and places in them.
use Rattle.std.specs.Prelude.{◌≡◌, [], ◌∷◌, Some, None, codes}
use Rattle.css_text.specs.declared.lexer.PieceKind.TheVariants.{Space, Comment, Quoted, Url, AtWord, Word, Single}
use Rattle.css_text.specs.declared.lexer.LexFault.TheVariants.{UnclosedString, UnclosedComment, UnclosedUrl}
use Rattle.css_text.specs.Ahead.{pieces, piece}
use Rattle.css_text.specs.Place.{place_of}

-- each form
abbrev pub EachForm : Type 0
EachForm = pieces (codes "@m a{b:'c'/*d*/url(e)}")
    ≡ record { pieces = piece AtWord 0 2 ∷ piece Space 2 3 ∷ piece Word 3 4 ∷ piece Single 4 5 ∷ piece Word 5 6 ∷ piece Single 6 7 ∷ piece Quoted 7 10 ∷ piece Comment 10 15 ∷ piece Url 15 21 ∷ piece Single 21 22 ∷ []; fault = None }

-- @a\ b URL( x\)y) 'q\''
abbrev pub Escapes : Type 0
Escapes = pieces (64 ∷ 97 ∷ 92 ∷ 32 ∷ 98 ∷ 32 ∷ 85 ∷ 82 ∷ 76 ∷ 40 ∷ 32 ∷ 120 ∷ 92 ∷ 41 ∷ 121 ∷ 41 ∷ 32 ∷ 39 ∷ 113 ∷ 92 ∷ 39 ∷ 39 ∷ [])
    ≡ record { pieces = piece AtWord 0 5 ∷ piece Space 5 6 ∷ piece Url 6 16 ∷ piece Space 16 17 ∷ piece Quoted 17 22 ∷ []; fault = None }

-- a backslash at the text's end is a unit
abbrev pub LastBackslash : Type 0
LastBackslash = pieces (64 ∷ 92 ∷ []) ≡ record { pieces = piece AtWord 0 2 ∷ []; fault = None }

-- a Word ends before a comment, and goes over another slash
abbrev pub Slashes : Type 0
Slashes = pieces (codes "a/b/*c*/d") ≡ record { pieces = piece Word 0 3 ∷ piece Comment 3 8 ∷ piece Word 8 9 ∷ []; fault = None }

-- `url(` inside a word, before a quote, and with nothing inside
abbrev pub Urls : Type 0
Urls = (pieces (codes "my-url(x") ≡ record { pieces = piece Word 0 6 ∷ piece Single 6 7 ∷ piece Word 7 8 ∷ []; fault = None })
    × (pieces (codes "url( 'x'") ≡ record { pieces = piece Word 0 3 ∷ piece Single 3 4 ∷ piece Space 4 5 ∷ piece Quoted 5 8 ∷ []; fault = None })
    × (pieces (codes "url()") ≡ record { pieces = piece Url 0 5 ∷ []; fault = None })

-- each fault; the star of an opening ends no comment
abbrev pub Faults : Type 0
Faults = (pieces (codes "a'b") ≡ record { pieces = piece Word 0 1 ∷ []; fault = Some (UnclosedString 1) })
    × (pieces (codes "a/*/ x") ≡ record { pieces = piece Word 0 1 ∷ []; fault = Some (UnclosedComment 1) })
    × (pieces (codes ":url(x") ≡ record { pieces = piece Single 0 1 ∷ []; fault = Some (UnclosedUrl 1) })

-- A byte order mark of three bytes is in no piece. A second one is a word's character, as is a euro sign of three bytes.
abbrev pub Marks : Type 0
Marks = pieces (0xfeff ∷ 0xfeff ∷ 0x20ac ∷ 123 ∷ []) ≡ record { pieces = piece Word 3 9 ∷ piece Single 9 10 ∷ []; fault = None }

-- behind a byte order mark; behind a line feed, a character outside the first plane, and b; CR LF is one line's end
abbrev pub Places : Type 0
Places = (place_of (0xfeff ∷ 97 ∷ []) 4 ≡ record { line = 1; column = 2 }) × (place_of (97 ∷ 10 ∷ 0x1d11e ∷ 98 ∷ []) 7 ≡ record { line = 2; column = 4 })
    × (place_of (97 ∷ 13 ∷ 10 ∷ 98 ∷ []) 2 ≡ record { line = 1; column = 3 }) × (place_of (97 ∷ 13 ∷ 10 ∷ 98 ∷ []) 3 ≡ record { line = 2; column = 1 })

-- A rule of an ordinary sheet has no fault; and the pieces of another, each by its bytes.
abbrev pub OrdinaryRule : Type 0
OrdinaryRule =
    ((pieces (codes ".nav > li:not(.active)::before {\n  content: \"\\201C\";\n  color: var(--brand, #336699);\n  -webkit-transition: opacity .2s ease-in-out;\n  transition: opacity .2s ease-in-out;\n}\n")).fault ≡ None)
    × (pieces (codes "a > li:hover {\n  color: var(--b, #369);\n}\n")
    ≡ record {
      pieces = piece Word 0 1 ∷ piece Space 1 2 ∷ piece Word 2 3 ∷ piece Space 3 4 ∷ piece Word 4 6 ∷ piece Single 6 7 ∷ piece Word 7 12 ∷ piece Space 12 13 ∷ piece Single 13 14
          ∷ piece Space 14 17 ∷ piece Word 17 22 ∷ piece Single 22 23 ∷ piece Space 23 24 ∷ piece Word 24 27 ∷ piece Single 27 28 ∷ piece Word 28 31 ∷ piece Single 31 32 ∷ piece Space 32 33
          ∷ piece Word 33 37 ∷ piece Single 37 38 ∷ piece Single 38 39 ∷ piece Space 39 40 ∷ piece Single 40 41 ∷ piece Space 41 42 ∷ [];
      fault = None;
    })
