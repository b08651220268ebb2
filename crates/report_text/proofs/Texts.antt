-- Texts that are put together piece by piece.
use Rattle.std.proofs.Common.{◌≡◌, ℕ, ◌+◌, ◌<◌, ◌≤◌, List, [], ◌∷◌, ◌++◌, length, count_by, Bool, true, false, refl, sym, ap, subst, ◌∙◌, append_assoc, append-nil, map}
use Rattle.std.specs.Prelude.{codes, encode_utf8_all, IfOk, Result, Ok, Err}
use Rattle.std.specs.List.{flat_map}
use Rattle.std.specs.Str.{chars, IsUtf8}
use Rattle.std.proofs.lemmas.Str.{encodes-chars}
use Rattle.json.specs.Print.{escape_byte}
use Rattle.serde_json.specs.Data.{Data, string, array}
use Rattle.serde_json.specs.View.{items_of}
use Rattle.serde_json.specs.Written.{compact_text, items_text}
use Rattle.lint_config.specs.declared.found.FileWarnings.{FileWarnings}
use Rattle.report_text.specs.Parts.{is_error, is_warning, counted, line_feed, all_warnings}
use Rattle.report_text.specs.Lines.{file_lines, total_line, total_of, lines}
use Rattle.report_text.specs.Unix as unix
use Rattle.report_text.specs.Json.{warning_data, file_data, json}
use Rattle.report_text.proofs.Totals.{no_total, no_unix_total, some_total, some_unix_total, all_of}

joined3 : (a b c d : List ℕ) → ((a ++ b) ++ c) ++ d ≡ a ++ (b ++ (c ++ d))
joined3 a b c d = simp (append_assoc)

module _ (files : List FileWarnings) (n e w : ℕ) (sum : n ≡ e + w) (errors : e ≡ count_by is_error (all_warnings files)) (warnings : w ≡ count_by is_warning (all_warnings files)) where
  all : n ≡ length (all_warnings files)
  all = all_of (all_warnings files) n e w sum errors warnings

  total : 0 < n → total_of (all_warnings files) ≡ total_line n e w
  total h = some_total (all_warnings files) (subst (λ z. 0 < z) all h)
      ∙ (ap (λ z. total_line z (count_by is_error (all_warnings files)) (count_by is_warning (all_warnings files))) (sym all)
      ∙ (ap (λ z. total_line n z (count_by is_warning (all_warnings files))) (sym errors) ∙ ap (total_line n e) (sym warnings)))

  pub lines_some : (t0 t1 t2 : List ℕ) → t0 ≡ [] → t1 ≡ t0 ++ flat_map file_lines files → t2 ≡ t1 ++ total_line n e w → 0 < n → t2 ≡ lines files
  unfolding lines
  lines_some t0 t1 t2 p0 p1 p2 h = p2 ∙ (ap (λ z. z ++ total_line n e w) (p1 ∙ ap (λ z. z ++ flat_map file_lines files) p0) ∙ ap (λ z. flat_map file_lines files ++ z) (sym (total h)))

  pub lines_none : (t0 t1 : List ℕ) → t0 ≡ [] → t1 ≡ t0 ++ flat_map file_lines files → n ≤ 0 → t1 ≡ lines files
  unfolding lines
  lines_none t0 t1 p0 p1 h = p1 ∙ (ap (λ z. z ++ flat_map file_lines files) p0 ∙ (sym (append-nil (flat_map file_lines files)) ∙ ap (λ z. flat_map file_lines files ++ z) (sym (no_total (all_warnings files) (subst (λ z. z ≤ 0) all h)))))

  unix_total : 0 < n → unix.total_of (all_warnings files) ≡ line_feed ++ (counted n (codes "problem") ++ line_feed)
  unix_total h = some_unix_total (all_warnings files) (subst (λ z. 0 < z) all h) ∙ ap (λ z. line_feed ++ (counted z (codes "problem") ++ line_feed)) (sym all)

  pub unix_some : (t0 t1 t2 t3 t4 : List ℕ) → t0 ≡ [] → t1 ≡ t0 ++ flat_map unix.file_lines files → t2 ≡ t1 ++ codes "\n" → t3 ≡ t2 ++ counted n (codes "problem") → t4 ≡ t3 ++ codes "\n"
      → 0 < n → t4 ≡ unix.unix files
  unfolding unix.unix
  unix_some t0 t1 t2 t3 t4 p0 p1 p2 p3 p4 h =
      p4 ∙ (ap (λ z. z ++ line_feed) (p3 ∙ ap (λ z. z ++ counted n (codes "problem")) (p2 ∙ ap (λ z. z ++ line_feed) (p1 ∙ ap (λ z. z ++ flat_map unix.file_lines files) p0)))
      ∙ (joined3 (flat_map unix.file_lines files) line_feed (counted n (codes "problem")) line_feed ∙ ap (λ z. flat_map unix.file_lines files ++ z) (sym (unix_total h))))

  pub unix_none : (t0 t1 : List ℕ) → t0 ≡ [] → t1 ≡ t0 ++ flat_map unix.file_lines files → n ≤ 0 → t1 ≡ unix.unix files
  unfolding unix.unix
  unix_none t0 t1 p0 p1 h = p1 ∙ (ap (λ z. z ++ flat_map unix.file_lines files) p0 ∙ (sym (append-nil (flat_map unix.file_lines files)) ∙ ap (λ z. flat_map unix.file_lines files ++ z) (sym (no_unix_total (all_warnings files) (subst (λ z. z ≤ 0) all h)))))

pub json_whole : (files : List FileWarnings) (t0 t1 t2 t3 : List ℕ) → t0 ≡ [] → t1 ≡ t0 ++ codes "[" → t2 ≡ t1 ++ items_text false (items_of (map file_data files)) → t3 ≡ t2 ++ codes "\n" → t3 ≡ json files
unfolding json
json_whole files t0 t1 t2 t3 p0 p1 p2 p3 = p3 ∙ ap (λ z. z ++ line_feed) (p2 ∙ ap (λ z. z ++ items_text false (items_of (map file_data files))) (p1 ∙ ap (λ z. z ++ codes "[") p0))

joined5 : (s a b c d e : List ℕ) → ((((s ++ a) ++ b) ++ c) ++ d) ++ e ≡ s ++ (a ++ (b ++ (c ++ (d ++ e))))
joined5 s a b c d e = simp (append_assoc)

file_is : (f : FileWarnings) → codes "{\"source\":" ++ (compact_text (string (encode_utf8_all f.name)) ++ (codes ",\"warnings\":[" ++ (items_text false (items_of (map warning_data f.warnings.items)) ++ codes "}"))) ≡ compact_text (file_data f)
unfolding escape_byte
file_is f = refl

pub file_whole : (f : FileWarnings) (s t1 t2 t3 t4 t5 : List ℕ) → t1 ≡ s ++ codes "{\"source\":" → t2 ≡ t1 ++ compact_text (string (encode_utf8_all f.name)) → t3 ≡ t2 ++ codes ",\"warnings\":["
    → t4 ≡ t3 ++ items_text false (items_of (map warning_data f.warnings.items)) → t5 ≡ t4 ++ codes "}" → t5 ≡ s ++ compact_text (file_data f)
file_whole f s t1 t2 t3 t4 t5 p1 p2 p3 p4 p5 =
    p5 ∙ (ap (λ z. z ++ codes "}") (p4 ∙ ap (λ z. z ++ items_text false (items_of (map warning_data f.warnings.items))) (p3 ∙ ap (λ z. z ++ codes ",\"warnings\":[") (p2 ∙ ap (λ z. z ++ compact_text (string (encode_utf8_all f.name))) p1)))
    ∙ (joined5 s (codes "{\"source\":") (compact_text (string (encode_utf8_all f.name))) (codes ",\"warnings\":[") (items_text false (items_of (map warning_data f.warnings.items))) (codes "}") ∙ ap (λ z. s ++ z) (file_is f)))

-- the characters of a string, as bytes again
pub told : {E : Type 0} (r : Result (List ℕ) E) (b x : List ℕ) → IfOk r (λ t. t ≡ chars b) → IsUtf8 b → b ≡ x → IfOk r (λ t. encode_utf8_all t ≡ x)
told (Ok t) b x h u e = ap encode_utf8_all h ∙ (encodes-chars b u ∙ e)
told (Err y) b x h u e = h
