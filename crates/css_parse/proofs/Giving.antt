-- Blanks that are given back to a container, and its end.
use Rattle.std.proofs.Common.{◌≡◌, ℕ, suc, zero, ◌+◌, ◌<◌, ◌≤◌, drop, drop-cons, add-one, subst, List, [], ◌∷◌, ◌++◌, Bool, true, false, length, refl, ◌∙◌, sym, ap, append_assoc, append-nil, arith, get_or, Some}
use Rattle.node_rows.specs.declared.node_list.NodeAt.{NodeAt}
use Rattle.node_rows.specs.Ends.{with_entry_block, with_entry_end}
use Rattle.css_tree.specs.declared.node.Block.{Block}
use Rattle.css_tree.specs.Pieces.{Lexeme, Shape, shape, is_blank, is_blank_shape, join, end_of}
use Rattle.css_tree.specs.Nodes.{Nodes, comment, ends_with_semicolon}
use Rattle.css_tree.specs.Classes.{Each, BeginsWithout}
use Rattle.css_tree.specs.Turn.{closes}
use Rattle.css_tree.proofs.Split.{solid, solid_by, tail}
use Rattle.css_tree.proofs.Reader.{Group, settle, settle_by, last_nodes}
use Rattle.css_tree.proofs.Printed.{join-append}
use Rattle.css_parse.specs.declared.turn.Frame.{Frame}
use Rattle.css_parse.specs.declared.piece.Shape.{Shape as Form}
use Rattle.css_parse.specs.declared.piece.Shape.TheVariants as FormOf
use Rattle.css_parse.specs.Shapes.{named}
use Rattle.css_parse.specs.Gaps.{gap_of}
use Rattle.css_parse.specs.Machine.{flat, comment_node, leaf_node, alter, seal, seal_root, Machine, given, sealed, left, next}
use Rattle.css_parse.specs.declared.gap.Gap.{Gap}
use Rattle.css_parse.specs.Standing.{gap_text, IsBehind}
use Rattle.css_parse.proofs.Standing.{gap as between, gap-more, gap-empty, behind-more, behind-empty, behind-one}
use Rattle.css_parse.proofs.Joins.{join-nil}
use Rattle.css_parse.proofs.MachineSteps.{alter-append, gap-join, more-gap}

-- the nodes once these blanks are given back, behind a gap with that text, and the text behind them
unfoldable pub given_nodes : ℕ → List NodeAt → List ℕ → List Lexeme → List NodeAt
given_nodes j ns g bl = ns ++ flat j (length ns) (settle (gap_of g) bl).nodes

unfoldable pub given_behind : List ℕ → List Lexeme → List ℕ
given_behind g bl = join (settle (gap_of g) bl).behind

length-snoc : (ns : List NodeAt) (x : NodeAt) → length (ns ++ x ∷ []) ≡ suc (length ns)
length-snoc [] x = refl
length-snoc (y ∷ ns) x = ap suc (length-snoc ns x)

-- two gaps with one text
record Alike (q k : Group) : Type 0 where
  nodes : (j n : ℕ) → flat j n q.nodes ≡ flat j n k.nodes
  behind : join q.behind ≡ join k.behind

settle_by-alike : (s : Shape) (g h : List Lexeme) (p : Lexeme) (k : List Lexeme → Group) → join g ≡ join h → ((g h : List Lexeme) → join g ≡ join h → Alike (k g) (k h)) → Alike (settle_by s g p k) (settle_by s h p k)
unfolding flat
settle_by-alike Shape.space g h p k e ih = ih (g ++ p ∷ []) (h ++ p ∷ []) (join-append g (p ∷ []) ∙ (ap (λ z. z ++ join (p ∷ [])) e ∙ sym (join-append h (p ∷ []))))
settle_by-alike _ g h p k e ih = record { nodes = λ j n. ap (λ z. comment_node j z p ∷ flat j (suc n) (k []).nodes) e; behind = refl }

alike : (bl g h : List Lexeme) → join g ≡ join h → Alike (settle g bl) (settle h bl)
unfolding settle flat
alike [] g h e = record { nodes = λ j n. refl; behind = e }
alike (p ∷ bl) g h e = settle_by-alike (shape p) g h p (λ g'. settle g' bl) e (λ g h e. alike bl g h e)

alike-nodes : (j : ℕ) (ns : List NodeAt) (bl g h : List Lexeme) → join g ≡ join h → ns ++ flat j (length ns) (settle g bl).nodes ≡ ns ++ flat j (length ns) (settle h bl).nodes
alike-nodes j ns bl g h e = ap (λ z. ns ++ z) ((alike bl g h e).nodes j (length ns))

pub given-nodes_space : (j : ℕ) (ns : List NodeAt) (g : List ℕ) (p : Lexeme) (bl : List Lexeme) → shape p ≡ Shape.space → given_nodes j ns g (p ∷ bl) ≡ given_nodes j ns (g ++ p.text) bl
unfolding given_nodes settle
given-nodes_space j ns g p bl e =
    ap (λ s. ns ++ flat j (length ns) (settle_by s (gap_of g) p (λ g'. settle g' bl)).nodes) e ∙ alike-nodes j ns bl (gap_of g ++ p ∷ []) (gap_of (g ++ p.text)) (more-gap g p)

pub given-behind_space : (g : List ℕ) (p : Lexeme) (bl : List Lexeme) → shape p ≡ Shape.space → given_behind g (p ∷ bl) ≡ given_behind (g ++ p.text) bl
unfolding given_behind settle
given-behind_space g p bl e =
    ap (λ s. join (settle_by s (gap_of g) p (λ g'. settle g' bl)).behind) e ∙ (alike bl (gap_of g ++ p ∷ []) (gap_of (g ++ p.text)) (more-gap g p)).behind

settle_by-comment : (s : Shape) (g : List Lexeme) (p : Lexeme) (k : List Lexeme → Group) → (s ≡ Shape.space → ⊥) → settle_by s g p k ≡ record { nodes = comment g p (k []).nodes; behind = (k []).behind }
settle_by-comment Shape.space g p k e = absurd (e refl)
settle_by-comment _ g p k e = refl

pub given-nodes_comment : (j : ℕ) (ns : List NodeAt) (g : List ℕ) (p : Lexeme) (bl : List Lexeme) → (shape p ≡ Shape.space → ⊥) → given_nodes j ns g (p ∷ bl) ≡ given_nodes j (ns ++ comment_node j g p ∷ []) [] bl
unfolding given_nodes settle flat
given-nodes_comment j ns g p bl e =
    ap (λ z. ns ++ flat j (length ns) z.nodes) (settle_by-comment (shape p) (gap_of g) p (λ g'. settle g' bl) e)
    ∙ (ap (λ z. ns ++ comment_node j z p ∷ flat j (suc (length ns)) (settle [] bl).nodes) (gap-join g)
    ∙ (sym (append_assoc ns (comment_node j g p ∷ []) (flat j (suc (length ns)) (settle [] bl).nodes))
    ∙ (ap (λ z. (ns ++ comment_node j g p ∷ []) ++ flat j z (settle [] bl).nodes) (sym (length-snoc ns (comment_node j g p)))
    ∙ alike-nodes j (ns ++ comment_node j g p ∷ []) bl [] (gap_of []) (join-nil ∙ sym (gap-join [])))))

pub given-behind_comment : (g : List ℕ) (p : Lexeme) (bl : List Lexeme) → (shape p ≡ Shape.space → ⊥) → given_behind g (p ∷ bl) ≡ given_behind [] bl
unfolding given_behind settle
given-behind_comment g p bl e =
    ap (λ z. join z.behind) (settle_by-comment (shape p) (gap_of g) p (λ g'. settle g' bl) e) ∙ (alike bl [] (gap_of []) (join-nil ∙ sym (gap-join []))).behind

pub given-nodes_none : (j : ℕ) (ns : List NodeAt) (g : List ℕ) → given_nodes j ns g [] ≡ ns
unfolding given_nodes settle flat
given-nodes_none j ns g = append-nil ns

pub given-behind_none : (g : List ℕ) → given_behind g [] ≡ g
unfolding given_behind settle
given-behind_none g = gap-join g

-- At an index of the blanks.

pub blank-comment : (p : Lexeme) → is_blank p ≡ true → (shape p ≡ Shape.space → ⊥) → shape p ≡ Shape.comment
unfolding is_blank
blank-comment p b n = by_shape (shape p) refl b
  where
    by_shape : (s : Shape) → shape p ≡ s → is_blank_shape s ≡ true → shape p ≡ Shape.comment
    by_shape Shape.space e b = absurd (n e)
    by_shape Shape.comment e b = e
    by_shape _ e b = absurd (cc)

pub each-at : (ps : List Lexeme) (i : ℕ) (d : Lexeme) → i < length ps → Each is_blank ps → is_blank (get_or ps i d) ≡ true
each-at [] i d l h = absurd (omega arith)
each-at (p ∷ ps) zero d l h = h.0
each-at (p ∷ ps) (suc i) d l h = each-at ps i d (omega arith) h.1

-- The end of a container.

settle_by-ended : (s : Shape) (g : List Lexeme) (p : Lexeme) (k : List Lexeme → Group) → ((g' : List Lexeme) → ends_with_semicolon false (k g').nodes ≡ false) → ends_with_semicolon false (settle_by s g p k).nodes ≡ false
unfolding ends_with_semicolon
settle_by-ended Shape.space g p k h = h (g ++ p ∷ [])
settle_by-ended _ g p k h = h []

settle-ended : (bl g : List Lexeme) → ends_with_semicolon false (settle g bl).nodes ≡ false
unfolding settle ends_with_semicolon
settle-ended [] g = refl
settle-ended (p ∷ bl) g = settle_by-ended (shape p) g p (λ g'. settle g' bl) (settle-ended bl)

pub given-run : (j : ℕ) (ns : List NodeAt) (s : Bool) (g : List ℕ) (r : List Lexeme) → (r ≡ [] → ⊥)
    → (ns ++ flat j (length ns) (last_nodes (gap_of g) r).nodes ≡ given_nodes j (ns ++ leaf_node j g (solid r) ∷ []) [] (tail r))
    × (ends_with_semicolon s (last_nodes (gap_of g) r).nodes ≡ false) × (join (last_nodes (gap_of g) r).behind ≡ given_behind [] (tail r))
unfolding flat ends_with_semicolon given_nodes given_behind
given-run j ns s g [] e = absurd (e refl)
given-run j ns s g (q ∷ r) e =
    let x : NodeAt = leaf_node j g (solid (q ∷ r)) in
    let n : Nodes = (settle [] (tail (q ∷ r))).nodes in (
      ap (λ z. ns ++ leaf_node j z (solid (q ∷ r)) ∷ flat j (suc (length ns)) n) (gap-join g)
          ∙ (sym (append_assoc ns (x ∷ []) (flat j (suc (length ns)) n))
          ∙ (ap (λ z. (ns ++ x ∷ []) ++ flat j z n) (sym (length-snoc ns x)) ∙ alike-nodes j (ns ++ x ∷ []) (tail (q ∷ r)) [] (gap_of []) (join-nil ∙ sym (gap-join [])))),
      settle-ended (tail (q ∷ r)) [],
      (alike (tail (q ∷ r)) [] (gap_of []) (join-nil ∙ sym (gap-join []))).behind,
    )

pub given-idle : (s : Machine) → s.run ≡ [] → given s ≡ s
unfolding flat ends_with_semicolon
given-idle s e = idle_given s.nodes s.number s.semicolon s.frames s.gap s.run s.awaited e
  where
    idle_given : (ns : List NodeAt) (j : ℕ) (b : Bool) (fs : List Frame) (g : List ℕ) (r aw : List Lexeme) → r ≡ []
        → given (record { nodes = ns; number = j; semicolon = b; frames = fs; gap = g; run = r; awaited = aw }) ≡ record { nodes = ns; number = j; semicolon = b; frames = fs; gap = g; run = r; awaited = aw }
    idle_given ns j b fs g [] aw e =
        ap (λ z. record { nodes = z; number = j; semicolon = b; frames = fs; gap = join (gap_of g); run = []; awaited = aw }) (append-nil ns)
        ∙ ap (λ z. record { nodes = ns; number = j; semicolon = b; frames = fs; gap = z; run = []; awaited = aw }) (gap-join g)
    idle_given ns j b fs g (q ∷ r) aw e = absurd (cc)

block-altered : (ns : List NodeAt) (j : ℕ) (b : Bool) (g : List ℕ) → j < length ns → with_entry_block ns j (record { semicolon = b; after = Some g }) ≡ alter j (seal_root b g) ns
unfolding alter
block-altered [] j b g l = absurd (omega arith)
block-altered (x ∷ ns) zero b g l = refl
block-altered (x ∷ ns) (suc j) b g l = ap (λ z. x ∷ z) (block-altered ns j b g (omega arith))

end-altered : (ns : List NodeAt) (j : ℕ) (b : Bool) (g : List ℕ) (p : Lexeme) → j < length ns → with_entry_end (with_entry_block ns j (record { semicolon = b; after = Some g })) j (end_of p) ≡ alter j (seal b g p) ns
unfolding alter
end-altered [] j b g p l = absurd (omega arith)
end-altered (x ∷ ns) zero b g p l = refl
end-altered (x ∷ ns) (suc j) b g p l = ap (λ z. x ∷ z) (end-altered ns j b g p (omega arith))

-- closing a block is giving back, sealing and leaving
pub close-steps : (s : Machine) (p : Lexeme) → s.number < length s.nodes → left (sealed (given s) p) ≡ next s p closes
close-steps s p l =
    let q : Group = last_nodes (gap_of s.gap) s.run in
    ap (λ z. left (record (given s) { nodes = z })) (alter-append s.number (seal (ends_with_semicolon s.semicolon q.nodes) (join q.behind) p) s.nodes _ l)

abbrev with_parts : Machine → List NodeAt → Bool → List ℕ → Machine
with_parts s ns b g = record { nodes = ns; number = s.number; semicolon = b; frames = s.frames; gap = g; run = []; awaited = s.awaited }

pub give-back : (s : Machine) (ns : List NodeAt) (g : List ℕ) → (s.run ≡ [] → ⊥)
    → ns ≡ given_nodes s.number (s.nodes ++ leaf_node s.number s.gap (solid s.run) ∷ []) [] (tail s.run) → g ≡ given_behind [] (tail s.run)
    → record { nodes = ns; number = s.number; semicolon = false; frames = s.frames; gap = g; run = []; awaited = s.awaited } ≡ given s
give-back s ns g e e1 e2 =
    let k = given-run s.number s.nodes s.semicolon s.gap s.run e in
    ap (λ z. with_parts s z false g) (e1 ∙ sym k.0) ∙ (ap (λ z. with_parts s (given s).nodes z g) (sym k.1) ∙ ap (λ z. with_parts s (given s).nodes (given s).semicolon z) (e2 ∙ sym k.2))

-- the shape that is no white space
pub named-space : (s : Form) → named s ≡ Shape.space → s ≡ FormOf.Space
named-space FormOf.Space e = refl
named-space _ e = absurd (cc)

pub solid-some : (r : List Lexeme) → (r ≡ [] → ⊥) → BeginsWithout is_blank r → 0 < length (solid r)
unfolding solid_by
solid-some [] n h = absurd (n refl)
solid-some (q ∷ r) n h = rw h (omega arith)

abbrev with_nodes : Machine → List NodeAt → Machine
with_nodes s ns = record { nodes = ns; number = s.number; semicolon = s.semicolon; frames = s.frames; gap = s.gap; run = s.run; awaited = s.awaited }

-- the open container with its end
pub sealed-node : (s : Machine) (p : Lexeme) (block : Block) (e : ℕ) (ms ks : List NodeAt) → s.number < length s.nodes
    → block ≡ record { semicolon = s.semicolon; after = Some s.gap } → ms ≡ with_entry_block s.nodes s.number block → e ≡ end_of p → ks ≡ with_entry_end ms s.number e
    → record { nodes = ks; number = s.number; semicolon = s.semicolon; frames = s.frames; gap = s.gap; run = s.run; awaited = s.awaited } ≡ sealed s p
sealed-node s p block e ms ks l eb em ee ek =
    let was = em ∙ ap (with_entry_block s.nodes s.number) eb in
    ap (with_nodes s)
    (ek ∙ (ap (λ z. with_entry_end z s.number e) was
    ∙ (ap (with_entry_end (with_entry_block s.nodes s.number (record { semicolon = s.semicolon; after = Some s.gap })) s.number) ee
    ∙ end-altered s.nodes s.number s.semicolon s.gap p l)))

pub sealed-root : (b : Bool) (g : List ℕ) (ns : List NodeAt) (n : ℕ) (block : Block) (ms : List NodeAt) → n < length ns
    → block ≡ record { semicolon = b; after = Some g } → ms ≡ with_entry_block ns n block → ms ≡ alter n (seal_root b g) ns
sealed-root b g ns n block ms l eb em = em ∙ (ap (with_entry_block ns n) eb ∙ block-altered ns n b g l)

pub ruleset given_steps = (given-nodes_space, given-behind_space, given-nodes_comment, given-behind_comment, given-nodes_none, given-behind_none)

-- The loop over the blanks: those before the index i are given back, and the gap stands before the others.
pub record Settling (bs : List ℕ) (j : ℕ) (ns0 : List NodeAt) (g0 : Gap) (bl : List Lexeme) (i : ℕ) (ns : List NodeAt) (g : Gap) : Type 0 where
  pub nodes : given_nodes j ns0 (gap_text bs g0) bl ≡ given_nodes j ns (gap_text bs g) (drop i bl)
  pub gap : given_behind (gap_text bs g0) bl ≡ given_behind (gap_text bs g) (drop i bl)
  pub few : length ns ≤ length ns0 + i
  pub more : length ns0 ≤ length ns
  pub behind : IsBehind bs g (drop i bl)

pub settling-start : (bs : List ℕ) (j : ℕ) (ns : List NodeAt) (g : Gap) (bl : List Lexeme) → IsBehind bs g bl → Settling bs j ns g bl 0 ns g
settling-start bs j ns g bl h = record { nodes = refl; gap = refl; few = omega arith; more = omega arith; behind = h }

next-blank : (bl : List Lexeme) (i : ℕ) (d : Lexeme) → i < length bl → d ≡ get_or bl i d → drop i bl ≡ d ∷ drop (i + 1) bl
next-blank bl i d l e = drop-cons bl i d l ∙ ap (λ z. z ∷ drop (suc i) bl) (sym e) ∙ rw add-one refl

module _ (bs : List ℕ) (j : ℕ) (ns0 : List NodeAt) (g0 : Gap) (bl : List Lexeme) (i : ℕ) (ns : List NodeAt) (g : Gap) (h : Settling bs j ns0 g0 bl i ns g) where
  pub settling-space : (p : Lexeme) → i < length bl → p ≡ get_or bl i p → shape p ≡ Shape.space → Settling bs j ns0 g0 bl (i + 1) ns (between g.start (end_of p))
  settling-space p l e s =
      let d : drop i bl ≡ p ∷ drop (i + 1) bl = next-blank bl i p l e in
      let b : IsBehind bs g (p ∷ drop (i + 1) bl) = subst (IsBehind bs g) d h.behind in
      let t = sym (gap-more bs g p (drop (i + 1) bl) b) in
      record {
        nodes = h.nodes ∙ (ap (given_nodes j ns (gap_text bs g)) d ∙ (given-nodes_space j ns (gap_text bs g) p (drop (i + 1) bl) s ∙ ap (λ z. given_nodes j ns z (drop (i + 1) bl)) t));
        gap = h.gap ∙ (ap (given_behind (gap_text bs g)) d ∙ (given-behind_space (gap_text bs g) p (drop (i + 1) bl) s ∙ ap (λ z. given_behind z (drop (i + 1) bl)) t));
        few = omega (arith, h.few);
        more = h.more;
        behind = behind-more bs g p (drop (i + 1) bl) b;
      }

  pub next-comment : (p : Lexeme) → i < length bl → p ≡ get_or bl i p → IsBehind bs g (p ∷ [])
  next-comment p l e = behind-one bs g p (drop (i + 1) bl) (subst (IsBehind bs g) (next-blank bl i p l e) h.behind)

  pub settling-comment : (p : Lexeme) (ms : List NodeAt) → i < length bl → p ≡ get_or bl i p → (shape p ≡ Shape.space → ⊥) → ms ≡ ns ++ comment_node j (gap_text bs g) p ∷ []
      → Settling bs j ns0 g0 bl (i + 1) ms (between (end_of p) (end_of p))
  settling-comment p ms l e s m =
      let d : drop i bl ≡ p ∷ drop (i + 1) bl = next-blank bl i p l e in
      let b : IsBehind bs g (p ∷ drop (i + 1) bl) = subst (IsBehind bs g) d h.behind in
      let t = sym (gap-empty bs (end_of p)) in
      let n : length ms ≡ suc (length ns) = ap length m ∙ length-snoc ns (comment_node j (gap_text bs g) p) in
      record {
        nodes = h.nodes ∙ (ap (given_nodes j ns (gap_text bs g)) d ∙ (given-nodes_comment j ns (gap_text bs g) p (drop (i + 1) bl) s
            ∙ (ap (λ z. given_nodes j z [] (drop (i + 1) bl)) (sym m) ∙ ap (λ z. given_nodes j ms z (drop (i + 1) bl)) t)));
        gap = h.gap ∙ (ap (given_behind (gap_text bs g)) d ∙ (given-behind_comment (gap_text bs g) p (drop (i + 1) bl) s ∙ ap (λ z. given_behind z (drop (i + 1) bl)) t));
        few = omega (arith, h.few, n);
        more = omega (arith, h.more, n);
        behind = behind-empty bs g p (drop (i + 1) bl) b;
      }

  -- behind the last of them
  pub settling-end : i ≡ length bl → (ns ≡ given_nodes j ns0 (gap_text bs g0) bl) × (gap_text bs g ≡ given_behind (gap_text bs g0) bl) × IsBehind bs g []
  settling-end e =
      let d : drop i bl ≡ [] = ap (λ z. drop z bl) e ∙ drop_all bl in (
        sym (h.nodes ∙ (ap (given_nodes j ns (gap_text bs g)) d ∙ given-nodes_none j ns (gap_text bs g))),
        sym (h.gap ∙ (ap (given_behind (gap_text bs g)) d ∙ given-behind_none (gap_text bs g))),
        subst (IsBehind bs g) d h.behind,
      )
    where
      drop_all : (a : List Lexeme) → drop (length a) a ≡ []
      drop_all [] = refl
      drop_all (y ∷ a) = drop_all a
