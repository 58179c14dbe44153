-- Names that are none.
use Rattle.std.proofs.Common.{◌≡◌, ◌≢◌, ℕ, true, false, cond, List, [], ◌∷◌, ◌++◌, refl, sym, ap, ◌∙◌, append_assoc}
use Rattle.std.specs.Prelude.{◌==◌}
use Rattle.std.specs.List.{list_all}
use Rattle.std.proofs.lemmas.Bool.{and_parts, and_from, both_ways, true≢false, false≢true, eqb-true}
use Rattle.rn_text.specs.Characters.{is_name_char, is_name_start, is_ncname}
use Rattle.rn_text.specs.Segments.{begins_with, run_of, after_run}
use Rattle.rn_text.proofs.Cutting.NameTokens.{start_is_char, colon_is_none}
use Rattle.rn_text.proofs.Words.CharacterRuns.{run_passes, stop_fails}
use Rattle.rn_text.proofs.Words.EqualLists.{cons_rest}
use Rattle.rn_xml.specs.XmlCharacters.{lines_of}
use Rattle.rn_xml.specs.XmlTags.{IsQName}
use Rattle.rn_xml.specs.XmlTags as t
use Rattle.rn_xml.specs.inside.Fronts.{BeginsName, ends_name}
use Rattle.rn_xml.proofs.QNames.{ncname_inner}
use Rattle.rn_xml.proofs.Sources.{front_there, inner_front, inner_itself}
use Rattle.rn_xml.proofs.Refusals.OneReading.Names.{name_ends, both_end, plain_once}
use Rattle.rn_xml.proofs.Refusals.RefusedFronts.{lines_begin}

pub ncname_run : (name behind : List ℕ) → is_ncname name ≡ true → is_ncname (run_of is_name_char (name ++ behind)) ≡ true
ncname_run [] behind n = absurd (false≢true n)
ncname_run (c ∷ cs) behind n =
    let start = (and_parts (is_name_start c) (list_all is_name_char cs) n).0 in
    ap (λ b. is_ncname (cond b (c ∷ run_of is_name_char (cs ++ behind)) [])) (start_is_char c start)
    ∙ and_from (is_name_start c) (list_all is_name_char (run_of is_name_char (cs ++ behind))) start (run_passes is_name_char (cs ++ behind))

pub ncname_there : (cs name behind : List ℕ) → is_ncname name ≡ true → lines_of cs ≡ name ++ behind → is_ncname (run_of is_name_char cs) ≡ true
ncname_there cs name behind n e = let there = front_there name cs behind (ncname_inner name n) e in ap (λ l. is_ncname (run_of is_name_char l)) there.1 ∙ ncname_run name there.0 n

pub no_name : (cs written prefix local behind : List ℕ) → is_ncname (run_of is_name_char cs) ≡ false → ¬ BeginsName (lines_of cs) written prefix local behind
no_name cs written prefix local behind none h = both_ways (is_ncname (run_of is_name_char cs)) none (there written prefix local h.is_name h.splits)
  where
    there : (w p l : List ℕ) → IsQName w p l → lines_of cs ≡ w ++ behind → is_ncname (run_of is_name_char cs) ≡ true
    there w p l (t.IsQName.unprefixed n) e = ncname_there cs l behind n e
    there w p l (t.IsQName.prefixed n m) e = ncname_there cs p (58 ∷ (l ++ behind)) n (e ∙ append_assoc p (58 ∷ l) behind)

no_colon : (b cs : List ℕ) → ends_name b ≡ true → b ≢ 58 ∷ cs
no_colon b cs ends e = true≢false (ap (begins_with (λ d. d == 58)) (sym e) ∙ (name_ends b ends).1)

pub colon_lines : (cs first rest after : List ℕ) → is_ncname first ≡ true → cs ≡ first ++ rest → rest ≡ 58 ∷ after → lines_of cs ≡ first ++ 58 ∷ lines_of after
colon_lines cs first rest after n e f = ap lines_of (e ∙ ap (λ l. first ++ l) f) ∙ inner_front first (58 ∷ after) (ncname_inner first n) ∙ ap (λ l. first ++ l) (inner_itself 58 after refl)

-- a name and a colon are there: what may follow them
behind_colon : (cs first after written prefix local behind : List ℕ) → is_ncname first ≡ true → lines_of cs ≡ first ++ 58 ∷ lines_of after → BeginsName (lines_of cs) written prefix local behind
    → (is_ncname local ≡ true) × (lines_of after ≡ local ++ behind)
behind_colon cs first after written prefix local behind n whole h = is written prefix local h.is_name (sym h.splits ∙ whole)
  where
    is : (w p l : List ℕ) → IsQName w p l → w ++ behind ≡ first ++ 58 ∷ lines_of after → (is_ncname l ≡ true) × (lines_of after ≡ l ++ behind)
    is w p l (t.IsQName.unprefixed m) e = absurd (no_colon behind (lines_of after) h.ends (plain_once l behind first (58 ∷ lines_of after) m n (name_ends behind h.ends).0 colon_is_none e).1)
    is w p l (t.IsQName.prefixed m k) e =
        let both = plain_once p (58 ∷ (l ++ behind)) first (58 ∷ lines_of after) m n colon_is_none colon_is_none (sym (append_assoc p (58 ∷ l) behind) ∙ e) in
        (k, sym (cons_rest both.1))

pub no_local : (cs first after written prefix local behind : List ℕ) → is_ncname first ≡ true → lines_of cs ≡ first ++ 58 ∷ lines_of after → is_ncname (run_of is_name_char after) ≡ false
    → ¬ BeginsName (lines_of cs) written prefix local behind
no_local cs first after written prefix local behind n whole none h =
    let is = behind_colon cs first after written prefix local behind n whole h in
    both_ways (is_ncname (run_of is_name_char after)) none (ncname_there after local behind is.0 is.1)

colon_stops : (cs : List ℕ) → begins_with (λ d. d == 58) cs ≡ true → begins_with is_name_char cs ≡ false
colon_stops [] c = absurd (false≢true c)
colon_stops (d ∷ ds) c = ap is_name_char (eqb-true d 58 c) ∙ colon_is_none

colon_there : (cs : List ℕ) → begins_with (λ d. d == 58) cs ≡ true → begins_with (λ d. d == 58) (lines_of cs) ≡ true
colon_there [] c = absurd (false≢true c)
colon_there (d ∷ ds) c = ap (λ a. begins_with (λ d. d == 58) (lines_of (a ∷ ds))) (eqb-true d 58 c)

pub two_colons : (cs first after word rest written prefix local behind : List ℕ) → is_ncname first ≡ true → lines_of cs ≡ first ++ 58 ∷ lines_of after → is_ncname word ≡ true → after ≡ word ++ rest
    → begins_with (λ d. d == 58) rest ≡ true → ¬ BeginsName (lines_of cs) written prefix local behind
two_colons cs first after word rest written prefix local behind n whole m split colon h =
    let is = behind_colon cs first after written prefix local behind n whole h in
    let lines : lines_of after ≡ word ++ lines_of rest = ap lines_of split ∙ inner_front word rest (ncname_inner word m) in
    let again = colon_there rest colon in
    let both = plain_once local behind word (lines_of rest) is.0 m (name_ends behind h.ends).0 (colon_stops (lines_of rest) again) (sym is.1 ∙ lines) in
    true≢false (sym again ∙ ap (begins_with (λ d. d == 58)) (sym both.1) ∙ (name_ends behind h.ends).1)

-- ---- where a name that is read ends

pub no_feed : is_name_char 10 ≡ false
unfolding is_name_char is_name_start
no_feed = refl

pub stops_at : (cs rest : List ℕ) → rest ≡ after_run is_name_char cs → begins_with is_name_char rest ≡ false
stops_at cs [] e = refl
stops_at cs (d ∷ ds) e = stop_fails is_name_char cs d ds (sym e)

pub read_name_ends : (cs rest : List ℕ) → rest ≡ after_run is_name_char cs → begins_with (λ d. d == 58) rest ≡ false → ends_name (lines_of rest) ≡ true
read_name_ends cs rest e colon = both_end (lines_of rest) (lines_begin is_name_char rest no_feed (stops_at cs rest e)) (lines_begin (λ d. d == 58) rest refl colon)
