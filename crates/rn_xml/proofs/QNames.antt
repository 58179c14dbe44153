-- Names, as they are written.
use Rattle.std.proofs.Common.{◌≡◌, ℕ, true, false, List, [], ◌∷◌, ◌++◌, refl, sym, ap, ◌∙◌, subst, ⊎_elim, append_assoc}
use Rattle.std.specs.Prelude.{not, ◌==◌}
use Rattle.std.specs.List.{list_all}
use Rattle.std.specs.Str.{chars}
use Rattle.std.proofs.lemmas.Bool.{and_from, cases_Bool, or_cases, eqb-true, false≢true}
use Rattle.std.proofs.lemmas.Str.{chars-nil}
use Rattle.rn_text.specs.Characters.{is_name_char, is_name_start, is_ncname}
use Rattle.rn_text.specs.Segments.{after_run, run_of, is_line_end}
use Rattle.rn_text.proofs.Cutting.NameTokens.{name_chars}
use Rattle.rn_text.proofs.Words.AppendedLists.{all_append}
use Rattle.rn_text.proofs.Words.CharacterRuns.{run_split}
use Rattle.rn_xml.specs.XmlCharacters.{lines_of}
use Rattle.rn_xml.specs.XmlTags.{IsQName, unprefixed}
use Rattle.rn_xml.specs.inside.Pieces.{is_inner}
use Rattle.rn_xml.proofs.Numbers.{all_pass_too}
use Rattle.rn_xml.proofs.Sources.{inner_front}

no_feed : is_name_char 10 ≡ false
unfolding is_name_char is_name_start
no_feed = refl

no_return : is_name_char 13 ≡ false
unfolding is_name_char is_name_start
no_return = refl

name_inner : (c : ℕ) → is_name_char c ≡ true → is_inner c ≡ true
name_inner c e = ⊎_elim
    (λ end. ⊎_elim
    (λ feed. absurd (false≢true (sym no_feed ∙ ap is_name_char (sym (eqb-true c 10 feed)) ∙ e)))
    (λ return. absurd (false≢true (sym no_return ∙ ap is_name_char (sym (eqb-true c 13 return)) ∙ e)))
    (or_cases (c == 10) (c == 13) end))
    (λ none. ap not none)
    (cases_Bool (is_line_end c))

-- a name has no line end
pub ncname_inner : (cs : List ℕ) → is_ncname cs ≡ true → list_all is_inner cs ≡ true
ncname_inner cs e = all_pass_too is_name_char is_inner name_inner cs (name_chars cs e)

-- a name at the front, and what follows it
pub name_split : (cs name rest : List ℕ) → name ≡ run_of is_name_char cs → rest ≡ after_run is_name_char cs → cs ≡ name ++ rest
name_split cs name rest n r = sym (run_split is_name_char cs) ∙ ap (λ l. l ++ after_run is_name_char cs) (sym n) ∙ ap (λ l. name ++ l) (sym r)

pub unprefixed_name : (local : List ℕ) → is_ncname local ≡ true → IsQName local (chars []) local
unprefixed_name local n = subst (λ p. IsQName local p local) (sym chars-nil) (unprefixed n)

pub unprefixed_split : (cs name rest : List ℕ) → cs ≡ name ++ rest → is_ncname name ≡ true → lines_of cs ≡ name ++ lines_of rest
unprefixed_split cs name rest e n = ap lines_of e ∙ inner_front name rest (ncname_inner name n)

pub prefixed_split : (cs prefix behind local after rest : List ℕ) → cs ≡ prefix ++ behind → behind ≡ 58 ∷ after → after ≡ local ++ rest → is_ncname prefix ≡ true → is_ncname local ≡ true
    → lines_of cs ≡ (prefix ++ 58 ∷ local) ++ lines_of rest
prefixed_split cs prefix behind local after rest e f g p l =
    ap lines_of (e ∙ ap (λ b. prefix ++ b) (f ∙ ap (λ b. 58 ∷ b) g) ∙ sym (append_assoc prefix (58 ∷ local) rest))
    ∙ inner_front (prefix ++ 58 ∷ local) rest (all_append is_inner prefix (58 ∷ local) (ncname_inner prefix p) (and_from (is_inner 58) (list_all is_inner local) refl (ncname_inner local l)))
