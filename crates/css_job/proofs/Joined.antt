-- Texts that are pushed one after another.
use Rattle.std.proofs.Common.{◌≡◌, ℕ, List, [], ◌++◌, ap, ◌∙◌, append_assoc}

pub pushed_eight : (s a b c d e f g h t1 t2 t3 t4 t5 t6 t7 t8 : List ℕ) → t1 ≡ s ++ a → t2 ≡ t1 ++ b → t3 ≡ t2 ++ c → t4 ≡ t3 ++ d → t5 ≡ t4 ++ e → t6 ≡ t5 ++ f → t7 ≡ t6 ++ g → t8 ≡ t7 ++ h → t8 ≡ s ++ (a ++ (b ++ (c ++ (d ++ (e ++ (f ++ (g ++ h)))))))
pushed_eight s a b c d e f g h t1 t2 t3 t4 t5 t6 t7 t8 p1 p2 p3 p4 p5 p6 p7 p8 = simp (p1, p2, p3, p4, p5, p6, p7, p8, append_assoc)

-- onto an empty text
pub pushed_onto : (s a b c d e t1 t2 t3 t4 t5 : List ℕ) → s ≡ [] → t1 ≡ s ++ a → t2 ≡ t1 ++ b → t3 ≡ t2 ++ c → t4 ≡ t3 ++ d → t5 ≡ t4 ++ e → t5 ≡ (a ++ b) ++ (c ++ (d ++ e))
pushed_onto s a b c d e t1 t2 t3 t4 t5 z p1 p2 p3 p4 p5 = simp (p1, p2, p3, p4, p5, z, append_assoc)

-- the same text under another name
pub instead : (t s a b : List ℕ) → t ≡ s ++ a → a ≡ b → t ≡ s ++ b
instead t s a b e f = e ∙ ap (λ z. s ++ z) f
