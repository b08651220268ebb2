-- The report with and without warnings.
use Rattle.std.proofs.Common.{◌≡◌, ℕ, ◌+◌, ◌-◌, ◌<◌, ◌≤◌, List, [], ◌∷◌, ◌++◌, length, count_by, Bool, true, false, cond, refl, ap, ◌∙◌, arith, suc}
use Rattle.std.proofs.lemmas.List.Sums.{sum_by-cons, count_by-le-length}
use Rattle.std.specs.Prelude.{◌==◌, encode_utf8_all}
use Rattle.std.proofs.lemmas.Bool.Decides.{nat_tests}
use Rattle.std.specs.List.{flat_map}
use Rattle.css_job.specs.Trace.{line}
use Rattle.css_job.specs.Warnings.{Warning}
use Rattle.css_job.specs.Report.{is_error, is_warning, warning_line, total_line, report}

others_step : (b : Bool) (n e w : ℕ) → w + e ≡ n → cond (cond b false true) 1 0 + w + (cond b 1 0 + e) ≡ suc n
others_step true n e w h = omega arith
others_step false n e w h = omega arith

-- each warning is of one severity or the other
others : (ws : List Warning) → count_by is_warning ws + count_by is_error ws ≡ length ws
others [] = refl
others (w ∷ ws) = omega (arith, sum_by-cons (λ x. cond (is_warning x) 1 0) w ws, sum_by-cons (λ x. cond (is_error x) 1 0) w ws, others_step (is_error w) (length ws) (count_by is_error ws) (count_by is_warning ws) (others ws))

pub report_none : (name : List ℕ) (ws : List Warning) → length ws ≡ 0 → report name ws ≡ []
unfolding report
report_none name [] h = refl
report_none name (w ∷ ws) h = absurd (omega arith)

abbrev whole : List ℕ → List Warning → List ℕ → List ℕ
whole name ws total = line (encode_utf8_all name) ++ (flat_map warning_line ws ++ (line [] ++ total))

pub report_some : (name : List ℕ) (ws : List Warning) → 0 < length ws → report name ws ≡ whole name ws (total_line (length ws) (count_by is_error ws) (length ws - count_by is_error ws))
unfolding report
report_some name [] h = absurd (omega arith)
report_some name (w ∷ ws) h =
    let left : count_by is_warning (w ∷ ws) ≡ length (w ∷ ws) - count_by is_error (w ∷ ws) = omega (arith, others (w ∷ ws)) in
    ap (λ n. whole name (w ∷ ws) (total_line (length (w ∷ ws)) (count_by is_error (w ∷ ws)) n)) left

pub not_none : (n : ℕ) → (n == 0) ≡ false → 0 < n
not_none n h = grind (arith, nat_tests)

-- the total by numbers that are known to be those of the list
pub total_is : (ws : List Warning) (n e : ℕ) → n ≡ length ws → e ≡ count_by is_error ws → total_line n e (n - e) ≡ total_line (length ws) (count_by is_error ws) (length ws - count_by is_error ws)
total_is ws n e p q = ap (λ x. total_line x e (x - e)) p ∙ ap (λ x. total_line (length ws) x (length ws - x)) q

pub few_errors : (ws : List Warning) → count_by is_error ws ≤ length ws
few_errors ws = count_by-le-length is_error ws
