-- Known texts are told apart by what they are called.
use Rattle.std.proofs.Common.{◌≡◌, ◌≢◌, ◌↔◌, [], sym, ap, ◌∙◌}
use mathlib.Core.Logic.Iff
use Rattle.std.specs.Prelude.{bytes_eq}
use Rattle.std.specs.Ordering.{is_eq}
use Rattle.std.proofs.lemmas.Cmp.{nat_list_cmp_total, tied_itself}
use Rattle.std.proofs.lemmas.Map.Text.{is_eq-slice_cmp}
use Rattle.rn_text.specs.Texts.{Text, text_cmp}
use Rattle.rn_pattern.proofs.Ordered.Orders.{text_same}
use Rattle.rn_pattern.specs.NameRules.{declarations}
use Rattle.rn_syntax.specs.Places.{xml_uri, xsd_uri}
use Rattle.rn_assemble.specs.Renamed.{IsRenaming}

module _ {named : Text → Text} {Known : Text → Type 0} (r : IsRenaming named Known) where
  pub one_known : (u v : Text) → Known u → Known v → named u ≡ named v → u ≡ v
  one_known u v k l e = text_same u v (sym (r.in_order u v k l) ∙ ap (text_cmp (named u)) (sym e) ∙ tied_itself nat_list_cmp_total (named u))

  pub both_alike : (u v : Text) → Known u → Known v → bytes_eq (named u) (named v) ≡ bytes_eq u v
  both_alike u v k l =
      sym (is_eq-slice_cmp (named u) (named v)) ∙ (ap is_eq (r.in_order u v k l) ∙ is_eq-slice_cmp u v)

  -- a text that is known and stays
  module _ (s : Text) (k : Known s) (stays : named s ≡ s) where
    is_alike : (u : Text) → Known u → (named u ≡ s) ↔ (u ≡ s)
    is_alike u l = (λ e. one_known u s l k (e ∙ sym stays), λ e. ap named e ∙ stays)

    eq_alike : (u : Text) → Known u → bytes_eq (named u) s ≡ bytes_eq u s
    eq_alike u l = ap (bytes_eq (named u)) (sym stays) ∙ both_alike u s l k

    pub alike_eq : (u : Text) → Known u → bytes_eq s (named u) ≡ bytes_eq s u
    alike_eq u l = ap (λ v. bytes_eq v (named u)) (sym stays) ∙ both_alike s u k l

  pub is_none : (u : Text) → Known u → (named u ≡ []) ↔ (u ≡ [])
  is_none = is_alike [] r.knows_none r.none

  pub is_declares : (u : Text) → Known u → (named u ≢ declarations) ↔ (u ≢ declarations)
  is_declares u k = Iff.not (is_alike declarations r.knows_declares r.declares u k)

  pub is_empty : (u : Text) → Known u → bytes_eq (named u) [] ≡ bytes_eq u []
  is_empty = eq_alike [] r.knows_none r.none

  pub is_xml : (u : Text) → Known u → bytes_eq (named u) xml_uri ≡ bytes_eq u xml_uri
  is_xml = eq_alike xml_uri r.knows_xml r.xml

  pub is_xsd : (u : Text) → Known u → bytes_eq (named u) xsd_uri ≡ bytes_eq u xsd_uri
  is_xsd = eq_alike xsd_uri r.knows_xsd r.xsd
