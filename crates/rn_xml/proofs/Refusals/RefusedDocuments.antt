-- Texts that are no document.
use Rattle.std.proofs.Common.{◌≡◌, ◌≢◌, ℕ, true, false, List, [], refl, sym, ap, ◌∙◌, subst, Some, inl, inr}
use Rattle.std.specs.Prelude.{◌==◌, length}
use Rattle.std.specs.Str.{IsUtf8, chars, encode_utf8_all}
use Rattle.std.proofs.lemmas.Bool.{true≢false}
use Rattle.std.proofs.lemmas.Option.{none-some}
use Rattle.std.proofs.lemmas.Str.{encodes-chars, chars-nil}
use Rattle.rn_text.specs.Texts.{Text}
use Rattle.rn_xml.specs.Infoset.{Node}
use Rattle.rn_xml.specs.PrefixScopes.{innermost}
use Rattle.rn_xml.specs.XmlCharacters.{lines_of, AreMisc}
use Rattle.rn_xml.specs.XmlTags.{IsEndTag}
use Rattle.rn_xml.specs.XmlDocuments.{IsElement, IsProduced}
use Rattle.rn_xml.specs.XmlDocuments as d
use Rattle.rn_xml.specs.declared.tags.TagReader.{TagReader}
use Rattle.rn_xml.specs.inside.Declared.{HasRoot}
use Rattle.rn_xml.specs.inside.Fronts.{opens_tag, IsRootOrEnd, LacksMisc, ReachNoTag}
use Rattle.rn_xml.specs.inside.OpenElements.{OpenElement, LacksElement, LacksTag, Needs, NeedsElement, NeedsEnd, scope_of}
use Rattle.rn_xml.specs.inside.ReadDocuments.{IsReading}
use Rattle.rn_xml.specs.inside.Rests.{source}
use Rattle.rn_xml.proofs.Decoding.DeclarationVersions.{no_lines}
use Rattle.rn_xml.proofs.Refusals.OneReading.Contents.{misc_leads_on}
use Rattle.rn_xml.proofs.Refusals.OneReading.FirstCharacters.{tag_kind}
use Rattle.rn_xml.proofs.Openings.OpenNeeds.{reaches_none, no_element, element_opens}
use Rattle.rn_xml.proofs.TagNames.{empty_text}

-- ---- within the root

pub root_element : (cs : List ℕ) → NeedsElement cs [] cs
root_element cs x left is = (x, left, is, refl)

pub text_refused : (cs : List ℕ) (r : TagReader) (parent : ℕ) (text : Text) → innermost r.opened.items ≡ Some parent → IsReading cs r text → ReachNoTag (source text) → LacksElement cs
text_refused cs r parent text last (IsReading.within e outer reads needs open_is) none = reaches_none cs e outer (source text) needs none
text_refused cs r parent text last (IsReading.done rows root needs) none = absurd (none-some parent (ap innermost (sym rows) ∙ last))

-- no end tag is there, though the innermost element has to end
pub end_refused : (cs : List ℕ) (e : OpenElement) (outer : List OpenElement) (tag : List ℕ) → NeedsEnd cs e outer tag → ((rest : List ℕ) → ¬ IsEndTag e.qname tag rest) → LacksElement cs
end_refused cs e outer tag needs none x left is = let end = needs x left is in none end.0 end.1

-- nor a start tag, though an element is next
pub element_refused : (cs : List ℕ) (opened : List OpenElement) (tag : List ℕ) → NeedsElement cs opened tag → LacksTag (scope_of opened) tag → LacksElement cs
element_refused cs opened tag needs none x left is = let next = needs x left is in no_element (scope_of opened) tag none next.0 next.1 next.2

-- ---- around the root

pub empty_no_tag : (text : Text) → (length text == 0) ≡ true → opens_tag (source text) ≡ false
empty_no_tag text none = ap (λ l. opens_tag (source l)) (empty_text text none) ∙ ap (λ l. opens_tag (lines_of l)) chars-nil

-- a text that isn't empty has characters
pub some_source : (text : Text) → IsUtf8 text → (length text == 0) ≡ false → source text ≢ []
some_source text t some none = true≢false (sym (ap (λ (l : List ℕ). length l == 0) (sym (encodes-chars text t) ∙ ap encode_utf8_all (no_lines (chars text) none))) ∙ some)

-- a document has a root behind its declaration and what may come before that
record Whole (cs : List ℕ) : Type 0 where
  root : List ℕ
  behind : List ℕ
  x : Node
  has : HasRoot cs root
  is : IsElement [] root x behind
  after : AreMisc behind []

whole_of : (cs : List ℕ) (x : Node) → IsProduced cs x → Whole cs
whole_of cs x (d.IsProduced.document {mid = m} {after = a} {behind = b} declares misc is rest) =
    record { root = a; behind = b; x = x; has = (m, declares, misc, element_opens [] a x b is); is = is; after = rest }

pub no_root_there : (cs : List ℕ) → ((root : List ℕ) → ¬ HasRoot cs root) → (x : Node) → ¬ IsProduced cs x
no_root_there cs none x h = let w = whole_of cs x h in none w.root w.has

module _ (cs prolog : List ℕ) (only : (root : List ℕ) → HasRoot cs root → AreMisc prolog root) where
  pub no_root_behind : ((rest : List ℕ) → AreMisc prolog rest → ¬ IsRootOrEnd rest) → (x : Node) → ¬ IsProduced cs x
  no_root_behind none x h = let w = whole_of cs x h in none w.root (only w.root w.has) (inr w.has.3)

  module _ (root : List ℕ) (misc : AreMisc prolog root) (all : LacksMisc root) where
    same_root : (w : Whole cs) → w.root ≡ root
    same_root w = all w.root (misc_leads_on prolog root w.root misc (only w.root w.has) (tag_kind w.root w.has.3))

    pub no_tag_there : opens_tag root ≡ false → (x : Node) → ¬ IsProduced cs x
    no_tag_there none x h = let w = whole_of cs x h in true≢false (sym w.has.3 ∙ ap opens_tag (same_root w) ∙ none)

    pub no_element_there : LacksElement root → (x : Node) → ¬ IsProduced cs x
    no_element_there none x h = let w = whole_of cs x h in none w.x w.behind (subst (λ l. IsElement [] l w.x w.behind) (same_root w) w.is)

    module _ (behind : List ℕ) (needs : Needs root [] behind) where
      same_behind : (w : Whole cs) → behind ≡ w.behind
      same_behind w = needs w.x w.behind (subst (λ l. IsElement [] l w.x w.behind) (same_root w) w.is)

      pub no_misc_behind : ((rest : List ℕ) → AreMisc behind rest → ¬ IsRootOrEnd rest) → (x : Node) → ¬ IsProduced cs x
      no_misc_behind none x h = let w = whole_of cs x h in none [] (subst (λ l. AreMisc l []) (sym (same_behind w)) w.after) (inl refl)

      pub more_behind : (rest : List ℕ) → AreMisc behind rest → LacksMisc rest → rest ≢ [] → (x : Node) → ¬ IsProduced cs x
      more_behind rest is last some x h =
          let w = whole_of cs x h in
          some (sym (last [] (misc_leads_on behind rest [] is (subst (λ l. AreMisc l []) (sym (same_behind w)) w.after) refl)))
