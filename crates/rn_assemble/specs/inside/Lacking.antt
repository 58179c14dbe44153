-- Overrides of what isn't there, in the instances of a module (RELAX NG 2001, 4.7).
use Rattle.std.specs.Prelude.{◌≡◌, ◌⊎◌, ℕ, zero, suc, ◌<◌, ◌≤◌, true, List, [], ◌∷◌, ◌++◌, length, Option, Some, None, Contains}
use Rattle.rn_text.specs.Texts.{Text, text_cmp}
use Rattle.rn_syntax.specs.Tree as t
use Rattle.rn_syntax.specs.Tree.{Declaration, Item, Items}
use Rattle.rn_assemble.specs.declared.by_key.checks.Lack.{Lack}
use Rattle.rn_assemble.specs.Components.{Key, NamedModule, handed_on, modules_named, components_within, instance_limit}
use Rattle.rn_assemble.specs.inside.ContentsOf.{name_at}
use Rattle.rn_assemble.specs.inside.Keyed.{key_at}
use Rattle.rn_assemble.specs.Least.{IsLeast, key_cmp}
use Rattle.rn_assemble.specs.Refusal.{items_lack}

-- each include of the items: the name that it wants, and the namespace that it hands on
module _ (inherited : Text) (ds : List Declaration) where
  abbrev mutual
    pub item_handed_namespaces : Item → List (Text × Text)
    item_handed_namespaces (t.define x m p) = []
    item_handed_namespaces (t.start m p) = []
    item_handed_namespaces (t.div xs) = handed_namespaces xs
    item_handed_namespaces (t.include wanted inherit xs) = (wanted, handed_on inherited ds inherit) ∷ handed_namespaces xs

    pub handed_namespaces : Items → List (Text × Text)
    handed_namespaces t.no_items = []
    handed_namespaces (t.item x xs) = item_handed_namespaces x ++ handed_namespaces xs

-- the module x under a namespace, or a module that it includes, fewer than depth times one inside the other, is called y and lacks a key that an include of it defines
abbrev pub LacksWithin : (depth : ℕ) → List NamedModule → (x inherited y : Text) → Key → Type 0
LacksWithin zero modules x inherited y k = ⊥
LacksWithin (suc depth) modules x inherited y k = (m : NamedModule) × Contains (modules_named x modules) m
    × (((x ≡ y) × (items_lack (components_within depth modules) inherited m.tree.declarations m.tree.items k ≡ true))
    ⊎ ((w : Text × Text) × Contains {X = Text × Text} (handed_namespaces inherited m.tree.declarations m.tree.items) w × LacksWithin depth modules w.0 w.1 y k))

-- one of the modules of these numbers, under no namespace, or one that it includes, lacks the key
abbrev pub LacksFrom : List NamedModule → List ℕ → Text → Key → Type 0
LacksFrom modules numbers y k = (n : ℕ) × Contains numbers n × LacksWithin (suc instance_limit) modules (name_at modules n) [] y k

-- the numbers of the least module of which P holds for some key, and of the least key there, or P holds of none
abbrev pub IsLeastLack : List NamedModule → List Text → (Text → Key → Type 0) → Option Lack → Type 0
IsLeastLack modules names P None = (y : Text) (k : Key) → ¬ P y k
IsLeastLack modules names P (Some l) = (l.«module».0 < length modules) × (l.key.0 < suc (length names))
    × IsLeast text_cmp (λ y. (k : Key) × P y k) (name_at modules l.«module».0) × IsLeast key_cmp (P (name_at modules l.«module».0)) (key_at names l.key.0)

-- the lack of the lesser module; of one module, the one that was met before
abbrev pub IsLesser : (held : Option Lack) → (other l : Lack) → Type 0
IsLesser None other l = l ≡ other
IsLesser (Some held) other l = ((held.«module».0 ≤ other.«module».0) × (l ≡ held)) ⊎ ((other.«module».0 < held.«module».0) × (l ≡ other))
