-- What each rule on patterns finds: the places in text order where name classes, datatypes, excepts and inherited prefixes break it.
use Rattle.std.specs.Prelude.{ℕ, Bool, not, List, [], ◌++◌, Option}
use Rattle.rn_syntax.specs.declared.rules.Rule.{Rule}
use Rattle.rn_syntax.specs.declared.rules.Rule.TheVariants as r
use Rattle.rn_syntax.specs.Tree.{NameClass, Datatype, Params, Pattern, Patterns, Declaration, Item, Items}
use Rattle.rn_syntax.specs.Places as places
use Rattle.rn_text.specs.Texts.{Text}

unfoldable pub classes : List Declaration → Rule → NameClass → List ℕ
classes ds r.Prefixes n = places.class_places ds n
classes ds r.All n = places.class_places ds n
classes ds _ n = []

-- the places at which the datatype of a value (true), or of data with these parameters, breaks the rule
unfoldable pub datatypes : List Declaration → Rule → Bool → Datatype → Params → List ℕ
datatypes ds r.Prefixes v x ps = places.unbound_type ds v x ps
datatypes ds r.Builtins v x ps = places.wrong_builtin ds v x ps
datatypes ds r.ContextValues v x ps = places.context_value ds v x ps
datatypes ds r.Excepts v x ps = []
datatypes ds r.All v x ps = (places.unbound_type ds v x ps ++ places.wrong_builtin ds v x ps) ++ places.context_value ds v x ps

unfoldable pub excepts : Rule → ℕ → Pattern → List ℕ
excepts r.Excepts i p = places.place_if (not (places.is_allowed p)) i
excepts r.All i p = places.place_if (not (places.is_allowed p)) i
excepts _ i p = []

unfoldable pub inherits : List Declaration → Rule → Option (Text × ℕ) → List ℕ
inherits ds r.Prefixes h = places.inherit_places ds h
inherits ds r.All h = places.inherit_places ds h
inherits ds _ h = []

-- the places in patterns and items that break the rule
module _ (ds : List Declaration) (rule : Rule) where
  abbrev pub pattern_places : Pattern → List ℕ
  pattern_places p = places.pattern_places (classes ds rule) (datatypes ds rule) (excepts rule) p

  abbrev pub patterns_places : Patterns → List ℕ
  patterns_places ps = places.patterns_places (classes ds rule) (datatypes ds rule) (excepts rule) ps

  abbrev pub item_places : Item → List ℕ
  item_places x = places.item_places (classes ds rule) (datatypes ds rule) (excepts rule) (inherits ds rule) x

  abbrev pub items_places : Items → List ℕ
  items_places xs = places.items_places (classes ds rule) (datatypes ds rule) (excepts rule) (inherits ds rule) xs
