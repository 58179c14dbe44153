-- The XML text of the module that a text is.
use Rattle.std.proofs.Common.{◌≢◌, List, sym, ap, ◌∙◌, subst}
use Rattle.rn_text.specs.Texts.{Text}
use Rattle.rn_syntax.specs.Tree.{Module, includes}
use Rattle.rn_syntax.proofs.OneReading.OneTree.{one_tree}
use Rattle.rn_modset.specs.Contributions.{Member}
use Rattle.rn_assemble.specs.Refusal.{IsModuleOf}
use Rattle.rn_assemble.specs.inside.ModuleTexts.{IsRead}
use Rattle.rn_assemble.proofs.Refusals.OneSet.{one_module_of}
use Rattle.rn_simplify.specs.Verdict.{IsVerdict, prints}
use Rattle.rn_simplify.proofs.Printed.PrintedSets.{printed_read}
use Rattle.rn_rng.specs.declared.xml_fault.XmlFault.{XmlFault}
use Rattle.rn_rng.specs.declared.xml_fault.XmlFault.TheVariants as fault
use Rattle.rn_rng.specs.Written.{HasNoXml, IsFlatModuleOf, IsUnwritten, IsWritten, IsXmlOf}
use Rattle.rn_rng.specs.inside.Unread.{IsUnread}

module _ (text : Text) where
  -- a text with a fault is no module
  pub unread : (e : XmlFault) → IsUnread text e → HasNoXml text e
  unread fault.NoSchema h = λ m flat. flat.no_fault h.0 h.1
  unread fault.Memory h = tt
  unread fault.TooLarge h = absurd h

  module _ (m : Module) (read : IsRead text m) where
    pub xml_of_text : (t : Text) → IsWritten m t → IsXmlOf text t
    xml_of_text t w = (m, record { is_module = read.is_module; no_fault = read.faultless; no_includes = w.0 }, w)

    -- the text is no other module
    pub no_xml_of_text : (e : XmlFault) → IsUnwritten m e → HasNoXml text e
    no_xml_of_text fault.TooLarge h = (m, record { is_module = read.is_module; no_fault = read.faultless; no_includes = h.0 }, h.1)
    no_xml_of_text fault.NoSchema h = λ n flat. h (ap (λ (x : Module). includes x.items) (one_module_of one_tree text m n read.is_module flat.is_module) ∙ flat.no_includes)
    no_xml_of_text fault.Memory h = tt

-- a printed schema of a set
printed_module : (set : List Member) (text : Text) → IsVerdict set (prints text) → (m : Module) × IsFlatModuleOf text m
printed_module set text v =
    let again = printed_read set text v in
    let back = again.read_back in (
      back.tree,
      record {
        is_module = subst (λ t. IsModuleOf t back.tree) (sym again.text_is) (back.utf8, (back.tokens, back.has_tokens, back.has_tree));
        no_fault = again.no_fault;
        no_includes = back.no_includes;
      },
    )

pub no_refusal : (text : Text) (e : XmlFault) → HasNoXml text e → (set : List Member) → IsVerdict set (prints text) → e ≢ fault.NoSchema
no_refusal text e h set v same =
    let flat = printed_module set text v in
    let none : (m : Module) → ¬ IsFlatModuleOf text m = subst (HasNoXml text) same h in
    none flat.0 flat.1
