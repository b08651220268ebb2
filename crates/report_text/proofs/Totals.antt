-- The totals by numbers that are counted.
use Rattle.std.proofs.Common.{◌≡◌, ℕ, ◌+◌, ◌<◌, ◌≤◌, List, [], ◌∷◌, ◌++◌, length, count_by, Bool, true, false, cond, refl, sym, ap, ◌∙◌, arith, suc}
use Rattle.std.specs.Prelude.{codes, not}
use Rattle.std.proofs.lemmas.List.Sums.{sum_by-cons}
use Rattle.lint_config.specs.declared.found.Warning.{Warning}
use Rattle.report_text.specs.Parts.{is_error, is_warning, counted, line_feed}
use Rattle.report_text.specs.Lines.{total_line, total_of}
use Rattle.report_text.specs.Unix as unix

others_step : (b : Bool) (n e w : ℕ) → w + e ≡ n → cond (not b) 1 0 + w + (cond b 1 0 + e) ≡ suc n
others_step true n e w h = omega arith
others_step false n e w h = omega arith

-- each warning is of one severity or the other
pub others : (ws : List Warning) → count_by is_warning ws + count_by is_error ws ≡ length ws
others [] = refl
others (w ∷ ws) = omega (arith, sum_by-cons (λ x. cond (is_warning x) 1 0) w ws, sum_by-cons (λ x. cond (is_error x) 1 0) w ws, others_step (is_error w) (length ws) (count_by is_error ws) (count_by is_warning ws) (others ws))

pub no_total : (ws : List Warning) → length ws ≤ 0 → total_of ws ≡ []
no_total [] h = refl
no_total (w ∷ ws) h = absurd (omega arith)

pub no_unix_total : (ws : List Warning) → length ws ≤ 0 → unix.total_of ws ≡ []
no_unix_total [] h = refl
no_unix_total (w ∷ ws) h = absurd (omega arith)

pub some_total : (ws : List Warning) → 0 < length ws → total_of ws ≡ total_line (length ws) (count_by is_error ws) (count_by is_warning ws)
some_total [] h = absurd (omega arith)
some_total (w ∷ ws) h = refl

pub some_unix_total : (ws : List Warning) → 0 < length ws → unix.total_of ws ≡ line_feed ++ (counted (length ws) (codes "problem") ++ line_feed)
some_unix_total [] h = absurd (omega arith)
some_unix_total (w ∷ ws) h = refl

pub all_of : (ws : List Warning) (n e w : ℕ) → n ≡ e + w → e ≡ count_by is_error ws → w ≡ count_by is_warning ws → n ≡ length ws
all_of ws n e w p q r = omega (arith, others ws, p, q, r)
