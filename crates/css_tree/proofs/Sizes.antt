-- Each node but the root takes at least two bytes.
use Rattle.std.proofs.Common.{◌≡◌, ◌≤◌, inl, inr, ℕ, suc, ◌+◌, ◌*◌, List, [], ◌∷◌, ◌++◌, Option, None, if◌then◌else◌, length, drop, refl, ◌∙◌, sym, ap, subst, arith, append_assoc, true≢false}
use Rattle.std.specs.Char.{len_utf8}
use Rattle.std.proofs.lemmas.Str.{len_utf8_bounds}
use Rattle.std.proofs.lemmas.List.Sums.{sum_by-cons}
use Rattle.css_text.specs.declared.lexer.Span.{Span}
use Rattle.css_text.specs.Ahead.{byte_len, bom_len, begins_bom}
use Rattle.css_tree.specs.declared.node.Block.{Block}
use Rattle.css_tree.specs.declared.node.NodeText.{NodeText}
use Rattle.css_tree.specs.Tree.{Trees}
use Rattle.css_tree.specs.Pieces.{Lexeme, Shape, join, end_of, last_end, pieces_of}
use Rattle.css_tree.specs.Nodes.{Nodes, none, comment, leaf, block, line, AreNodes}
use Rattle.css_tree.specs.Fields.{IsComment, IsAtRule, IsDeclaration, IsLeaf, IsBlock, IsHack, begins_hack, begins_at, span_of}
use Rattle.css_tree.specs.Reads.{AreTrees, block_of_nodes}
use Rattle.css_tree.specs.Numbered.{number_after}
use Rattle.css_tree.specs.Laws.{HasTwoBytes, EachHasTwoBytes, TwoBytes, AtMostHalf}
use Rattle.css_tree.proofs.Formed.{FormedBy, HasText, AllFormed, formed-front, formed-back, formed-of, StandAt}
use Rattle.css_tree.proofs.Printed.{join-append, join-cons}
use Rattle.css_tree.proofs.Reading.{pieces-formed, pieces-join}
use Rattle.css_tree.proofs.Starts.{bytes-append, ends-at, stand-behind, stand-front, hack-bytes, pieces-stand}

text-byte : (t : List ℕ) → HasText t → 1 ≤ byte_len t
text-byte [] h = absurd h
text-byte (c ∷ cs) h = omega (arith, sum_by-cons len_utf8 c cs, (len_utf8_bounds c).0)

-- what follows a hack isn't empty
prop-text : (h word prop : List ℕ) → word ≡ h ++ prop → IsHack h word → HasText word → HasText prop
prop-text [] word prop e k t = subst (λ z. HasText z) e t
prop-text (c ∷ []) word [] e k t = absurd (true≢false (sym (sym (ap begins_hack e) ∙ k)))
prop-text (c ∷ []) word (d ∷ ds) e k t = tt
prop-text (c ∷ d ∷ cs) word prop e k t = absurd k

comment-two : (b : List Lexeme) (p : Lexeme) (t : NodeText) (sp : Option Span) → IsComment b p t sp → HasTwoBytes sp
comment-two b p t sp h =
    let e : byte_len p.text ≡ byte_len (47 ∷ 42 ∷ (h.left ++ (h.text ++ (h.right ++ 42 ∷ 47 ∷ [])))) = ap byte_len h.all in
    let l : p.at + 2 ≤ end_of p = omega (arith, e, sum_by-cons len_utf8 47 (42 ∷ (h.left ++ (h.text ++ (h.right ++ 42 ∷ 47 ∷ [])))), sum_by-cons len_utf8 42 (h.left ++ (h.text ++ (h.right ++ 42 ∷ 47 ∷ [])))) in
    subst (λ z. HasTwoBytes z) (sym h.is_span) l

comment-text : (b : List Lexeme) (p : Lexeme) (t : NodeText) (sp : Option Span) → IsComment b p t sp → 2 ≤ byte_len p.text
comment-text b p t sp h =
    omega (arith, ap byte_len h.all, sum_by-cons len_utf8 47 (42 ∷ (h.left ++ (h.text ++ (h.right ++ 42 ∷ 47 ∷ [])))), sum_by-cons len_utf8 42 (h.left ++ (h.text ++ (h.right ++ 42 ∷ 47 ∷ []))))

-- an at-word with a name
at-word-two : (w : Lexeme) → FormedBy Shape.at_name w.text → 2 ≤ byte_len w.text
at-word-two w f = let k = text-byte (drop 1 w.text) f.1 in omega (arith, ap byte_len f.0, sum_by-cons len_utf8 64 (drop 1 w.text), k)

abbrev RunFormed : List Lexeme → Type 0
RunFormed r = AllFormed r

at_rule-two : (at : ℕ) (b run : List Lexeme) (t : NodeText) (sp : Option Span) → IsAtRule b run None (last_end 0 run) t sp → AllFormed run → StandAt at run
    → HasTwoBytes sp × (2 ≤ byte_len (join run))
at_rule-two at b run t sp h m s =
    let r = h.after_name ++ (h.params ++ h.between) in
    let m' : AllFormed (h.word ∷ r) = subst (λ z. AllFormed z) h.all m in
    let s' : StandAt at (h.word ∷ r) = subst (λ z. StandAt at z) h.all s in
    let k = at-word-two h.word (formed-of h.word Shape.at_name h.word_class m'.0) in
    let e : last_end 0 run ≡ end_of h.word + byte_len (join r) = ap (λ z. last_end 0 z) h.all ∙ ends-at (end_of h.word) r s'.1 in
    let l : h.word.at + 2 ≤ last_end 0 run = omega (arith, e, k) in
    (subst (λ z. HasTwoBytes z) (sym h.is_span) l, omega (arith, k, ap (λ z. byte_len (join z)) h.all, ap byte_len (join-cons h.word r), bytes-append h.word.text (join r)))

-- the bytes of the pieces behind a declaration's word: its colon is one
colon-byte : (front : List Lexeme) (c : Lexeme) (rest : List Lexeme) → c.text ≡ 58 ∷ [] → 1 ≤ byte_len (join (front ++ c ∷ rest))
colon-byte front c rest e =
    omega (arith, ap byte_len (join-append front (c ∷ rest)), bytes-append (join front) (join (c ∷ rest)), ap byte_len (join-cons c rest), bytes-append c.text (join rest), ap byte_len e)

declaration-two : (at : ℕ) (b run : List Lexeme) (t : NodeText) (sp : Option Span) → IsDeclaration b run t sp → AllFormed run → StandAt at run
    → HasTwoBytes sp × (2 ≤ byte_len (join run))
declaration-two at b run t sp h m s =
    let r = h.front ++ h.colon ∷ (h.back ++ (h.body ++ h.tail)) in
    let m' : AllFormed (h.word ∷ r) = subst (λ z. AllFormed z) h.all m in
    let s' : StandAt at (h.word ∷ r) = subst (λ z. StandAt at z) h.all s in
    let k = text-byte h.prop (prop-text h.hack h.word.text h.prop h.word_text h.hack_class m'.1) in
    let c = colon-byte h.front h.colon (h.back ++ (h.body ++ h.tail)) (formed-of h.colon Shape.colon h.colon_class (formed-back h.front (h.colon ∷ (h.back ++ (h.body ++ h.tail))) m'.2).0) in
    let w : byte_len h.word.text ≡ length h.hack + byte_len h.prop = omega (arith, ap byte_len h.word_text, bytes-append h.hack h.prop, hack-bytes h.hack h.word.text h.prop h.word_text h.hack_class) in
    let e = ends-at (end_of h.word) r s'.1 in
    let l : h.word.at + length h.hack + 2 ≤ last_end (end_of h.word) r = omega (arith, e, k, c, w) in
    (subst (λ z. HasTwoBytes z) (sym h.is_span) l, omega (arith, k, c, w, ap (λ z. byte_len (join z)) h.all, ap byte_len (join-cons h.word r), bytes-append h.word.text (join r)))

leaf-two : (at : ℕ) (b run : List Lexeme) (t : NodeText) (sp : Option Span) → IsLeaf b run t sp → AllFormed run → StandAt at run → HasTwoBytes sp × (2 ≤ byte_len (join run))
leaf-two at b run t sp (inl h) m s = at_rule-two at b run t sp h m s
leaf-two at b run t sp (inr h) m s = declaration-two at b run t sp h m s

block-start : (b run : List Lexeme) (o : Lexeme) (blk : Block) (end : ℕ) (t : NodeText) (sp : Option Span) → IsBlock b run o blk end t sp → sp ≡ span_of (begins_at run o) end
block-start b run o blk end t sp (inl h) = h.is_span ∙ ap (λ z. span_of (begins_at z o) end) (sym h.all)
block-start b run o blk end t sp (inr h) = h.is_span

first-stands : (at : ℕ) (run rest : List Lexeme) (o : Lexeme) → StandAt at (run ++ o ∷ rest) → begins_at run o ≡ at
first-stands at [] rest o h = h.0
first-stands at (q ∷ r) rest o h = h.0

-- a block's `{` and `}`
block-two : (at : ℕ) (b run : List Lexeme) (o : Lexeme) (k a : List Lexeme) (d : Lexeme) (rest : List Lexeme) (blk : Block) (t : NodeText) (sp : Option Span) → IsBlock b run o blk (end_of d) t sp
    → o.text ≡ 123 ∷ [] → d.text ≡ 125 ∷ [] → StandAt at (run ++ o ∷ (k ++ (a ++ d ∷ rest))) → HasTwoBytes sp
block-two at b run o k a d rest blk t sp h eo ed s =
    let f = first-stands at run (k ++ (a ++ d ∷ rest)) o s in
    let so : StandAt (at + byte_len (join run)) (o ∷ (k ++ (a ++ d ∷ rest))) = stand-behind at run (o ∷ (k ++ (a ++ d ∷ rest))) s in
    let sd : StandAt (end_of o + byte_len (join (k ++ a))) (d ∷ rest) = stand-behind (end_of o) (k ++ a) (d ∷ rest) (subst (λ z. StandAt (end_of o) z) (sym (append_assoc k a (d ∷ rest))) so.1) in
    let l : begins_at run o + 2 ≤ end_of d = omega (arith, f, so.0, sd.0, ap byte_len eo, ap byte_len ed) in
    subst (λ z. HasTwoBytes z) (sym (block-start b run o blk (end_of d) t sp h)) l

pub two : (f : Nodes) (ts : Trees) (n : ℕ) (a : List Lexeme) (at : ℕ) → AreNodes n f a → AllFormed (line f) → AreTrees f ts → StandAt at (line f) → EachHasTwoBytes ts
unfolding line
two none Trees.none n a at h m t st = tt
two none (Trees.node x sp k r) n a at h m t st = absurd t
two (comment b p f) Trees.none n a at h m t st = absurd t
two (comment b p f) (Trees.node x sp Trees.none r) n a at h m t st =
    let mp = formed-back b (p ∷ line f) m in
    let sb = stand-behind at b (p ∷ line f) st in
    (comment-two b p x sp t.0, tt, two f r n a (end_of p) h.2 mp.2 t.1 sb.1)
two (comment b p f) (Trees.node x sp (Trees.node x' sp' k' r') r) n a at h m t st = absurd t
two (leaf b q e f) Trees.none n a at h m t st = absurd t
two (leaf b q e f) (Trees.node x sp Trees.none r) n a at h m t st =
    let mr = formed-back b (q ++ (e ++ line f)) m in
    let me = formed-back q (e ++ line f) mr in
    let y = at + byte_len (join b) in
    let sb : StandAt y (q ++ (e ++ line f)) = stand-behind at b (q ++ (e ++ line f)) st in
    let se : StandAt (y + byte_len (join q)) (e ++ line f) = stand-behind y q (e ++ line f) sb in (
      (leaf-two y b q x sp t.0 (formed-front q (e ++ line f) mr) (stand-front y q (e ++ line f) sb)).0,
      tt,
      two f r n a (y + byte_len (join q) + byte_len (join e)) h.4 (formed-back e (line f) me) t.1 (stand-behind (y + byte_len (join q)) e (line f) se),
    )
two (leaf b q e f) (Trees.node x sp (Trees.node x' sp' k' r') r) n a at h m t st = absurd t
two (block b q o v a' d f) Trees.none n a at h m t st = absurd t
two (block b q o v a' d f) (Trees.node x sp k r) n a at h m t st =
    let mr = formed-back b (q ++ o ∷ (line v ++ (a' ++ d ∷ line f))) m in
    let mo = formed-back q (o ∷ (line v ++ (a' ++ d ∷ line f))) mr in
    let mk = formed-front (line v) (a' ++ d ∷ line f) mo.2 in
    let mc = formed-back a' (d ∷ line f) (formed-back (line v) (a' ++ d ∷ line f) mo.2) in
    let y = at + byte_len (join b) in
    let sb : StandAt y (q ++ o ∷ (line v ++ (a' ++ d ∷ line f))) = stand-behind at b (q ++ o ∷ (line v ++ (a' ++ d ∷ line f))) st in
    let so : StandAt (y + byte_len (join q)) (o ∷ (line v ++ (a' ++ d ∷ line f))) = stand-behind y q (o ∷ (line v ++ (a' ++ d ∷ line f))) sb in
    let sa : StandAt (end_of o + byte_len (join (line v))) (a' ++ d ∷ line f) = stand-behind (end_of o) (line v) (a' ++ d ∷ line f) so.1 in
    let sd : StandAt (end_of o + byte_len (join (line v)) + byte_len (join a')) (d ∷ line f) = stand-behind (end_of o + byte_len (join (line v))) a' (d ∷ line f) sa in (
      block-two y b q o (line v) a' d (line f) (block_of_nodes v a') x sp t.0 (formed-of o Shape.brace_open h.2 mo.0) (formed-of d Shape.brace_close h.5 mc.0) sb,
      two v k (suc n) a' (end_of o) h.4 mk t.1 (stand-front (end_of o) (line v) (a' ++ d ∷ line f) so.1),
      two f r n a (end_of d) h.6 mc.2 t.2 sd.1,
    )

-- How many nodes there are.

number-node : (m : ℕ) (x : NodeText) (sp : Option Span) (k r : Trees) → number_after m (Trees.node x sp k r) ≡ number_after (number_after (suc m) k) r
unfolding number_after
number-node m x sp k r = refl

number-none : (m : ℕ) → number_after m Trees.none ≡ m
unfolding number_after
number-none m = refl

bytes-two : (xs ys : List Lexeme) → byte_len (join (xs ++ ys)) ≡ byte_len (join xs) + byte_len (join ys)
bytes-two xs ys = ap byte_len (join-append xs ys) ∙ bytes-append (join xs) (join ys)

bytes-cons : (p : Lexeme) (ps : List Lexeme) → byte_len (join (p ∷ ps)) ≡ byte_len p.text + byte_len (join ps)
bytes-cons p ps = ap byte_len (join-cons p ps) ∙ bytes-append p.text (join ps)

pub half : (f : Nodes) (ts : Trees) (n : ℕ) (a : List Lexeme) (at m : ℕ) → AreNodes n f a → AllFormed (line f) → AreTrees f ts → StandAt at (line f)
    → 2 * number_after m ts ≤ 2 * m + byte_len (join (line f))
unfolding line
half none Trees.none n a at m h w t st = omega (arith, number-none m)
half none (Trees.node x sp k r) n a at m h w t st = absurd t
half (comment b p f) Trees.none n a at m h w t st = absurd t
half (comment b p f) (Trees.node x sp Trees.none r) n a at m h w t st =
    let wp = formed-back b (p ∷ line f) w in
    let sb = stand-behind at b (p ∷ line f) st in
    let ih = half f r n a (end_of p) (suc m) h.2 wp.2 t.1 sb.1 in
    let k = comment-text b p x sp t.0 in
    omega (arith, ih, k, number-node m x sp Trees.none r, ap (λ z. number_after z r) (number-none (suc m)), bytes-two b (p ∷ line f), bytes-cons p (line f))
half (comment b p f) (Trees.node x sp (Trees.node x' sp' k' r') r) n a at m h w t st = absurd t
half (leaf b q e f) Trees.none n a at m h w t st = absurd t
half (leaf b q e f) (Trees.node x sp Trees.none r) n a at m h w t st =
    let wr = formed-back b (q ++ (e ++ line f)) w in
    let we = formed-back q (e ++ line f) wr in
    let y = at + byte_len (join b) in
    let sb : StandAt y (q ++ (e ++ line f)) = stand-behind at b (q ++ (e ++ line f)) st in
    let se : StandAt (y + byte_len (join q)) (e ++ line f) = stand-behind y q (e ++ line f) sb in
    let k = (leaf-two y b q x sp t.0 (formed-front q (e ++ line f) wr) (stand-front y q (e ++ line f) sb)).1 in
    let ih = half f r n a (y + byte_len (join q) + byte_len (join e)) (suc m) h.4 (formed-back e (line f) we) t.1 (stand-behind (y + byte_len (join q)) e (line f) se) in
    omega (arith, ih, k, number-node m x sp Trees.none r, ap (λ z. number_after z r) (number-none (suc m)), bytes-two b (q ++ (e ++ line f)), bytes-two q (e ++ line f), bytes-two e (line f))
half (leaf b q e f) (Trees.node x sp (Trees.node x' sp' k' r') r) n a at m h w t st = absurd t
half (block b q o v a' d f) Trees.none n a at m h w t st = absurd t
half (block b q o v a' d f) (Trees.node x sp k r) n a at m h w t st =
    let wr = formed-back b (q ++ o ∷ (line v ++ (a' ++ d ∷ line f))) w in
    let wo = formed-back q (o ∷ (line v ++ (a' ++ d ∷ line f))) wr in
    let wk = formed-front (line v) (a' ++ d ∷ line f) wo.2 in
    let wc = formed-back a' (d ∷ line f) (formed-back (line v) (a' ++ d ∷ line f) wo.2) in
    let y = at + byte_len (join b) in
    let sb : StandAt y (q ++ o ∷ (line v ++ (a' ++ d ∷ line f))) = stand-behind at b (q ++ o ∷ (line v ++ (a' ++ d ∷ line f))) st in
    let so : StandAt (y + byte_len (join q)) (o ∷ (line v ++ (a' ++ d ∷ line f))) = stand-behind y q (o ∷ (line v ++ (a' ++ d ∷ line f))) sb in
    let sa : StandAt (end_of o + byte_len (join (line v))) (a' ++ d ∷ line f) = stand-behind (end_of o) (line v) (a' ++ d ∷ line f) so.1 in
    let sd : StandAt (end_of o + byte_len (join (line v)) + byte_len (join a')) (d ∷ line f) = stand-behind (end_of o + byte_len (join (line v))) a' (d ∷ line f) sa in
    let ik = half v k (suc n) a' (end_of o) (suc m) h.4 wk t.1 (stand-front (end_of o) (line v) (a' ++ d ∷ line f) so.1) in
    let ir = half f r n a (end_of d) (number_after (suc m) k) h.6 wc.2 t.2 sd.1 in
    let eo : byte_len o.text ≡ 1 = ap byte_len (formed-of o Shape.brace_open h.2 wo.0) in
    let ed : byte_len d.text ≡ 1 = ap byte_len (formed-of d Shape.brace_close h.5 wc.0) in
    omega (
      arith,
      ik,
      ir,
      eo,
      ed,
      number-node m x sp k r,
      bytes-two b (q ++ o ∷ (line v ++ (a' ++ d ∷ line f))),
      bytes-two q (o ∷ (line v ++ (a' ++ d ∷ line f))),
      bytes-cons o (line v ++ (a' ++ d ∷ line f)),
      bytes-two (line v) (a' ++ d ∷ line f),
      bytes-two a' (d ∷ line f),
      bytes-cons d (line f),
    )

-- The laws.

pub two_bytes : TwoBytes
two_bytes s t h =
    let m : AllFormed (line h.nodes ++ h.behind) = subst (λ z. AllFormed z) (sym h.are_all) (pieces-formed s) in
    let st : StandAt (bom_len s) (line h.nodes ++ h.behind) = subst (λ z. StandAt (bom_len s) z) (sym h.are_all) (pieces-stand s) in
    two h.nodes t.children 0 h.behind (bom_len s) h.are_nodes (formed-front (line h.nodes) h.behind m) h.are_trees (stand-front (bom_len s) (line h.nodes) h.behind st)

pub at_most_half : AtMostHalf
at_most_half s t h =
    let m : AllFormed (line h.nodes ++ h.behind) = subst (λ z. AllFormed z) (sym h.are_all) (pieces-formed s) in
    let st : StandAt (bom_len s) (line h.nodes ++ h.behind) = subst (λ z. StandAt (bom_len s) z) (sym h.are_all) (pieces-stand s) in
    let k = half h.nodes t.children 0 h.behind (bom_len s) 0 h.are_nodes (formed-front (line h.nodes) h.behind m) h.are_trees (stand-front (bom_len s) (line h.nodes) h.behind st) in
    let mark : List ℕ = if begins_bom s then 0xfeff ∷ [] else [] in
    omega (arith, k, bytes-two (line h.nodes) h.behind, ap (λ z. byte_len (join z)) h.are_all, ap byte_len (pieces-join s h.no_fault), bytes-append mark (join (pieces_of s)))
