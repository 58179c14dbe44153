-- Why a set of modules has no grammar: the refusals in the order in which they are tested, and what each says of the set.
use Rattle.std.specs.Prelude.{ℕ, ◌≡◌, ◌≢◌, ◌<◌, Bool, true, false, not, ◌||◌, ◌&&◌, List, [], is_some, sum_by, Contains}
use Rattle.std.specs.List.{AllZip}
use Rattle.std.specs.Str.{IsUtf8, chars}
use Rattle.rn_text.specs.Tokens.{Lexeme, HasTokens}
use Rattle.rn_text.specs.Texts.{Text, text_cmp}
use Rattle.rn_pattern.specs.Matching.{Grammar}
use Rattle.rn_pattern.specs.References.{Reaches, IsUndefined, IsRecursive}
use Rattle.rn_pattern.specs.NameRules.{KeepsNameRules}
use Rattle.rn_modset.specs.Contributions.{Member}
use Rattle.rn_modset.specs.Modules.{Module, IsFirstConflict, AreEffective}
use Rattle.rn_syntax.specs.Tree as t
use Rattle.rn_syntax.specs.Tree.{Declaration, Item, Items}
use Rattle.rn_syntax.specs.TokenTerminals.{terminals}
use Rattle.rn_syntax.specs.Beginnings.{HasTree}
use Rattle.rn_syntax.specs.Places.{deep, prefix_places, builtin_places, context_places, except_places}
use Rattle.rn_syntax.specs.Faults.{kind_rank}
use Rattle.rn_syntax.specs.declared.fault.FaultKind.{FaultKind}
use Rattle.rn_syntax.specs.declared.fault.FaultKind.TheVariants as kind
use Rattle.rn_assemble.specs.Components.{Key, start_key, Component, NamedModule, has_key, all_components, components, handed_on, modules_named, Includes, instance_limit, instances, roots, set_components}
use Rattle.rn_assemble.specs.Combine.{IsPlainTwice, IsMixed, joined_pattern, joined_grammar}
use Rattle.rn_assemble.specs.Least.{IsLeast, key_cmp}

-- a refusal tells a module by its name, an include by its module and the name that it wants, and what is combined by its key
pub data Refusal : Type 0 where
  conflict : (name : Text) (revision : ℕ) → Refusal
  faulty : FaultKind → (name : Text) → Refusal
  missing : (includer wanted : Text) → Refusal
  cycle : (name : Text) → Refusal
  too_many_instances : Refusal
  override : (includer : Text) → Key → Refusal
  plain_twice : Key → Refusal
  mixed_methods : Key → Refusal
  no_start : Refusal
  undefined : (name : Text) → Refusal
  recursive : (name : Text) → Refusal
  name_class : Key → Refusal

-- the place of a refusal in the order of the tests
abbrev pub rank : Refusal → ℕ
rank (conflict x r) = 0
rank (faulty f x) = 1
rank (missing x w) = 2
rank (cycle x) = 3
rank too_many_instances = 4
rank (override x k) = 5
rank (plain_twice k) = 6
rank (mixed_methods k) = 7
rank no_start = 8
rank (undefined x) = 9
rank (recursive x) = 10
rank (name_class k) = 11

-- the text is a module of this tree
abbrev pub IsModuleOf : Text → t.Module → Type 0
IsModuleOf text m = IsUtf8 text × ((ts : List Lexeme) × HasTokens (chars text) ts × HasTree (terminals ts) m)

-- the text has tokens, and of these P holds
abbrev pub TokensAre : Text → (List Lexeme → Type 0) → Type 0
TokensAre text P = IsUtf8 text × ((ts : List Lexeme) × HasTokens (chars text) ts × P ts)

-- the text is a module, in whose tree there are such places
abbrev pub TreeHas : Text → (t.Module → List ℕ) → Type 0
TreeHas text places = (m : t.Module) × IsModuleOf text m × (places m ≢ [])

-- the text has the fault, whatever else it has
abbrev pub HasTextFault : Text → FaultKind → Type 0
HasTextFault text kind.Encoding = ¬ IsUtf8 text
HasTextFault text kind.Lexical = IsUtf8 text × ((ts : List Lexeme) → ¬ HasTokens (chars text) ts)
HasTextFault text kind.Deep = TokensAre text (λ ts. is_some (deep 0 (terminals ts)) ≡ true)
HasTextFault text kind.Syntax = TokensAre text (λ ts. (m : t.Module) → ¬ HasTree (terminals ts) m)
HasTextFault text kind.Prefix = TreeHas text prefix_places
HasTextFault text kind.Builtin = TreeHas text builtin_places
HasTextFault text kind.ContextValue = TreeHas text context_places
HasTextFault text kind.Except = TreeHas text except_places

-- the first fault of the text
abbrev pub IsFirstFault : Text → FaultKind → Type 0
IsFirstFault text f = HasTextFault text f × ((g : FaultKind) → kind_rank g < kind_rank f → ¬ HasTextFault text g)

-- a module whose text has a fault
abbrev pub IsFaulty : List Module → Text → Type 0
IsFaulty texts x = (text : Text) × Contains texts (x, text) × ((f : FaultKind) × HasTextFault text f)

-- the includer has an include that names no module of the set
abbrev pub Wants : List NamedModule → Text → Text → Type 0
Wants modules x w = Includes modules x w × (modules_named w modules ≡ [])

-- an include among the items defines the key, which the components of the included module lack (RELAX NG 2001, 4.7)
module _ (included : Text → Text → List Component) (inherited : Text) (ds : List Declaration) where
  abbrev mutual
    pub item_lacks : Item → Key → Bool
    item_lacks (t.define x m p) k = false
    item_lacks (t.start m p) k = false
    item_lacks (t.div xs) k = items_lack xs k
    item_lacks (t.include wanted inherit xs) k = has_key k (all_components included inherited ds xs) && not (has_key k (included wanted (handed_on inherited ds inherit)))

    pub items_lack : Items → Key → Bool
    items_lack t.no_items k = false
    items_lack (t.item x xs) k = item_lacks x k || items_lack xs k

-- an include of the module x defines the key, which the components of the included module lack; under no namespace, since under each the keys are the same
abbrev pub Lacks : List NamedModule → Text → Key → Type 0
Lacks modules x k = (m : NamedModule) × Contains (modules_named x modules) m × (items_lack (components modules) [] m.tree.declarations m.tree.items k ≡ true)

-- what is joined under the key breaks the restrictions on name classes (RELAX NG 2001, 4.16)
abbrev pub BreaksNameRules : List Component → Key → Type 0
BreaksNameRules cs k = (has_key k cs ≡ true) × ¬ KeepsNameRules (joined_pattern cs k)

-- the grammar of the modules
abbrev pub grammar_of : List NamedModule → Grammar
grammar_of modules = joined_grammar (set_components modules)

-- the refusal is true of modules that were read, with the least fields that it has; `conflict` and `faulty` say why a set's modules
-- weren't read, so they are true of no modules: `Stands` says when they are true of a set
abbrev pub StandsFor : List NamedModule → Refusal → Type 0
StandsFor modules (conflict x r) = ⊥
StandsFor modules (faulty f x) = ⊥
StandsFor modules (missing x w) = IsLeast text_cmp (λ y. (v : Text) × Wants modules y v) x × IsLeast text_cmp (Wants modules x) w
StandsFor modules (cycle x) = IsLeast text_cmp (λ y. Reaches (Includes modules) y y) x
StandsFor modules too_many_instances = instance_limit < sum_by (λ (r : NamedModule). instances modules r.name) (roots modules)
StandsFor modules (override x k) = IsLeast text_cmp (λ y. (j : Key) × Lacks modules y j) x × IsLeast key_cmp (Lacks modules x) k
StandsFor modules (plain_twice k) = IsLeast key_cmp (λ j. IsPlainTwice j (set_components modules)) k
StandsFor modules (mixed_methods k) = IsLeast key_cmp (λ j. IsMixed j (set_components modules)) k
StandsFor modules no_start = has_key start_key (set_components modules) ≡ false
StandsFor modules (undefined x) = IsLeast text_cmp (IsUndefined (grammar_of modules)) x
StandsFor modules (recursive x) = IsLeast text_cmp (IsRecursive (grammar_of modules)) x
StandsFor modules (name_class k) = IsLeast key_cmp (BreaksNameRules (set_components modules)) k

-- the refusal is the first that stands for the modules
abbrev pub IsFirstFor : List NamedModule → Refusal → Type 0
IsFirstFor modules r = StandsFor modules r × ((q : Refusal) → rank q < rank r → ¬ StandsFor modules q)

-- the effective modules of the set with the trees of their texts, in the order of their names; no text has a fault
pub record AreModules (s : List Member) (modules : List NamedModule) : Type 0 where
  pub texts : List Module
  pub are_effective : AreEffective s texts
  pub faultless : (x : Text) → ¬ IsFaulty texts x
  pub trees : AllZip (λ (x : Module) (m : NamedModule). (m.name ≡ x.0) × IsModuleOf x.1 m.tree) texts modules

-- the refusal stands for the set
abbrev pub Stands : List Member → Refusal → Type 0
Stands s (conflict x r) = IsFirstConflict s x r
Stands s (faulty f x) = (texts : List Module) × AreEffective s texts × IsLeast text_cmp (IsFaulty texts) x × ((text : Text) × Contains texts (x, text) × IsFirstFault text f)
Stands s r = (modules : List NamedModule) × AreModules s modules × StandsFor modules r

-- the refusal is the first that stands for the set
abbrev pub IsFirst : List Member → Refusal → Type 0
IsFirst s r = Stands s r × ((q : Refusal) → rank q < rank r → ¬ Stands s q)

-- no refusal stands, and this is the grammar of the set
abbrev pub IsAssembled : List Member → Grammar → Type 0
IsAssembled s g = ((r : Refusal) → ¬ Stands s r) × ((modules : List NamedModule) × AreModules s modules × (g ≡ grammar_of modules))
