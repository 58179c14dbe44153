-- Terms of the code are printed as what they mean is.
use Rattle.std.proofs.Common.{◌≡◌, ℕ, ◌+◌, ◌<◌, Bool, true, false, cond, List, [], ◌∷◌, ◌++◌, refl, sym, ap, ◌∙◌, subst, arith, append-nil, ne_eqb, Bor, Some, None}
use Rattle.std.specs.Prelude.{Option, ◌==◌, ◌||◌, ◌&&◌, not, bytes_eq, codes, filter, map, option_map, unwrap_or, slice_get, if◌then◌else◌}
use Rattle.std.specs.List.{cons_option, filter_map, flat_map}
use Rattle.std.specs.Option.{option_map_or}
use Rattle.std.proofs.lemmas.Bool.{cond-true, cond-false}
use Rattle.std.proofs.lemmas.List.Elements.{filter_map-append}
use Rattle.std.proofs.lemmas.Grind.{flat_map-append}
use Rattle.std.proofs.lemmas.Option.{none-some, same_Some}
use Rattle.rn_text.specs.Texts.{Text}
use Rattle.rn_text.specs.declared.parts.Kind.TheVariants.{AnyOf, Keyword, Prefixed, Symbol}
use Rattle.rn_text.specs.declared.keywords.Keyword.{Keyword as Word}
use Rattle.rn_text.specs.declared.keywords.Keyword.TheVariants as w
use Rattle.rn_text.specs.Keywords.{spelling}
use Rattle.rn_xml.specs.XmlTags.{xml_uri}
use Rattle.rn_translate.specs.Spelled.{Spelled}
use Rattle.rn_translate.specs.declared.prefixes.BoundUri.{BoundUri}
use Rattle.rn_translate.specs.declared.prefixes.Prefixes.{Prefixes}
use Rattle.rn_translate.specs.declared.printing.Declared.{Declared}
use Rattle.rn_translate.specs.declared.signs.Sign.{Sign}
use Rattle.rn_translate.specs.declared.signs.Sign.TheVariants as g
use Rattle.rn_translate.specs.declared.terms.Placed.{Placed}
use Rattle.rn_translate.specs.declared.terms.Term.{Term as CodeTerm}
use Rattle.rn_translate.specs.declared.terms.Term.TheVariants as t
use Rattle.rn_translate.specs.declared.uris.Uri.{Uri}
use Rattle.rn_translate.specs.declared.uris.Uris.{Uris}
use Rattle.rn_translate.specs.Terms.{Namespace, inherited, uri, Term, keyword, symbol, identifier, local, prefixed, any_of, prefix, datatype, literal}
use Rattle.rn_translate.specs.Layouts.{is_same}
use Rattle.rn_translate.specs.inside.Meanings.{known, sign_terms, term_meant, terms_meant, uri_meant}
use Rattle.rn_translate.specs.inside.UriTables.{IsTable, empty_uri}
use Rattle.rn_translate.specs.SchemaTokens.{xsd_uri}
use Rattle.rn_translate.specs.TokenTexts.{identifier_token, literal_tokens, one_token, word_token}
use Rattle.rn_translate.specs.inside.SignTokens.{sign_tokens}
use Rattle.rn_translate.specs.inside.PrintedTerms.{bound_tokens, datatype_token, declared_tokens, default_tokens, is_built_in, number_of, prefix_bytes, prefixes_tokens, printed_tokens, term_tokens, terms_tokens, uri_text, uri_tokens}
use Rattle.rn_translate.specs.TokenTexts.{numbered_bytes}
use Rattle.rn_translate.specs.inside.NeededPrefixes.{AreBound, each_once, is_uri, needed_libraries, needed_library, needed_namespace, needed_namespaces, place_in, unless}
use Rattle.rn_translate.specs.inside.PrintedSchemas.{IsPrintable}
use Rattle.rn_translate.specs.SchemaTokens.{bound_to, default_declared, is_keyword_type, library_needed, namespace_needed, namespace_prefix, namespace_tokens, namespace_unless, number_among, once, place_among, prefixes_declared, schema_tokens, tokens_of, type_tokens}
use Rattle.rn_translate.proofs.UriMeanings.{Means, empty_meant, meaning, meant_at, same_meant}

zero_is : (k : ℕ) → k ≡ 0 → (k == 0) ≡ true
zero_is k e = ap (λ n. n == 0) e

some_is : (k : ℕ) → 0 < k → (k == 0) ≡ false
some_is k some = ne_eqb k 0 (λ e. absurd (omega arith))

-- these URIs mean these namespaces
data AreMeant (uris : Uris) : List Uri → List Namespace → Type 0 where
  none : AreMeant uris [] []
  more : {u : Uri} {n : Namespace} {us : List Uri} {ns : List Namespace} → uri_meant uris u ≡ Some n → AreMeant uris us ns → AreMeant uris (u ∷ us) (n ∷ ns)

both_meant : {uris : Uris} {us vs : List Uri} {ns ms : List Namespace} → AreMeant uris us ns → AreMeant uris vs ms → AreMeant uris (us ++ vs) (ns ++ ms)
both_meant AreMeant.none are = are
both_meant (AreMeant.more is rest) are = AreMeant.more is (both_meant rest are)

-- these terms of the code mean these
data TermsMean (uris : Uris) : List Placed → List Term → Type 0 where
  none : TermsMean uris [] []
  more : {p : Placed} {ps : List Placed} (ts us : List Term) → term_meant uris p.term ≡ known ts → TermsMean uris ps us → TermsMean uris (p ∷ ps) (ts ++ us)

-- ---- lists of terms that are known

known_same : (ts us : List Term) → known ts ≡ known us → ts ≡ us
known_same [] [] e = refl
known_same [] (u ∷ us) e = absurd cc
known_same (t ∷ ts) [] e = absurd cc
known_same (t ∷ ts) (u ∷ us) e = let rest : known ts ≡ known us = cc in let first : t ≡ u = cc in ap (λ x. x ∷ ts) first ∙ ap (λ l. u ∷ l) (known_same ts us rest)

record Splits (os rest_os : List (Option Term)) (ts : List Term) : Type 0 where
  front : List Term
  back : List Term
  whole : ts ≡ front ++ back
  is_front : os ≡ known front
  is_back : rest_os ≡ known back

splits : (os rest_os : List (Option Term)) (ts : List Term) → os ++ rest_os ≡ known ts → Splits os rest_os ts
splits [] rest_os ts e = record { front = []; back = ts; whole = refl; is_front = refl; is_back = e }
splits (a ∷ os) rest_os [] e = absurd cc
splits (a ∷ os) rest_os (x ∷ ts) e =
    let rest : os ++ rest_os ≡ known ts = cc in
    let s = splits os rest_os ts rest in
    let first : a ≡ Some x = cc in
    record { front = x ∷ s.front; back = s.back; whole = ap (λ l. x ∷ l) s.whole; is_front = ap (λ o. o ∷ os) first ∙ ap (λ l. Some x ∷ l) s.is_front; is_back = s.is_back }

terms_mean : (uris : Uris) (ps : List Placed) (ts : List Term) → terms_meant uris ps ≡ known ts → TermsMean uris ps ts
terms_mean uris [] [] e = TermsMean.none
terms_mean uris [] (x ∷ ts) e = absurd cc
terms_mean uris (p ∷ ps) ts e =
    let s = splits (term_meant uris p.term) (terms_meant uris ps) ts e in
    subst (TermsMean uris (p ∷ ps)) (sym s.whole) (TermsMean.more s.front s.back s.is_front (terms_mean uris ps s.back s.is_back))

-- one term
record Single (o : Option Term) (ts : List Term) : Type 0 where
  term : Term
  is : ts ≡ term ∷ []
  meant : o ≡ Some term

single : (o : Option Term) (ts : List Term) → o ∷ [] ≡ known ts → Single o ts
single o [] e = absurd cc
single o (x ∷ []) e = record { term = x; is = refl; meant = cc }
single o (x ∷ y ∷ ts) e = absurd cc

mapped : (f : Namespace → Term) (o : Option Namespace) (x : Term) → option_map f o ≡ Some x → (n : Namespace) × (o ≡ Some n) × (f n ≡ x)
mapped f None x e = absurd (none-some x e)
mapped f (Some n) x e = (n, refl, same_Some (f n) x e)

module _ (uris : Uris) (table : IsTable uris) where
  xml_meant : uri_meant uris (record { index = 2 }) ≡ Some (uri xml_uri)
  xml_meant = meant_at uris (record { index = 2 }) xml_uri (omega arith) table.xml

  xsd_meant : uri_meant uris (record { index = 3 }) ≡ Some (uri xsd_uri)
  xsd_meant = meant_at uris (record { index = 3 }) xsd_uri (omega arith) table.xsd

  is_xml : (u : Uri) (n : Namespace) → uri_meant uris u ≡ Some n → (u.index == 2) ≡ is_same n (uri xml_uri)
  is_xml u n is = sym (same_meant uris table u (record { index = 2 }) n (uri xml_uri) is xml_meant)

  is_xsd : (u : Uri) (n : Namespace) → uri_meant uris u ≡ Some n → (u.index == 3) ≡ is_same n (uri xsd_uri)
  is_xsd u n is = sym (same_meant uris table u (record { index = 3 }) n (uri xsd_uri) is xsd_meant)

  is_keyword : (u : Uri) (n : Namespace) (name : Text) → uri_meant uris u ≡ Some n → is_built_in u name ≡ is_keyword_type n name
  is_keyword u n name is = ap (λ b. b && (bytes_eq name (codes "string") || bytes_eq name (codes "token"))) (sym (same_meant uris table u empty_uri n (uri []) is (empty_meant table)))

  -- ---- each once, and its place

  kept_if : (b : Bool) (v : Uri) (m : Namespace) {us : List Uri} {ns : List Namespace} → uri_meant uris v ≡ Some m → AreMeant uris us ns → AreMeant uris (cond (not b) (v ∷ us) us) (cond (not b) (m ∷ ns) ns)
  kept_if true v m is are = are
  kept_if false v m is are = AreMeant.more is are

  others_meant : (u : Uri) (n : Namespace) {us : List Uri} {ns : List Namespace} → uri_meant uris u ≡ Some n → AreMeant uris us ns
      → AreMeant uris (filter (λ v. not (is_uri u v)) us) (filter (λ m. not (is_same m n)) ns)
  others_meant u n is AreMeant.none = AreMeant.none
  others_meant u n is (AreMeant.more {u = v} {n = m} {us = us} {ns = ns} isv rest) =
      let same : is_uri u v ≡ is_same m n = sym (same_meant uris table v u m n isv is) in
      let left : List Namespace = filter (λ x. not (is_same x n)) ns in
      subst (λ b. AreMeant uris (filter (λ x. not (is_uri u x)) (v ∷ us)) (cond (not b) (m ∷ left) left)) same (kept_if (is_uri u v) v m isv (others_meant u n is rest))

  once_meant : {us : List Uri} {ns : List Namespace} → AreMeant uris us ns → AreMeant uris (each_once us) (once ns)
  once_meant AreMeant.none = AreMeant.none
  once_meant (AreMeant.more {u = u} {n = n} is rest) = AreMeant.more is (others_meant u n is (once_meant rest))

  place_meant : (u : Uri) (n : Namespace) {us : List Uri} {ns : List Namespace} → uri_meant uris u ≡ Some n → AreMeant uris us ns → place_in us u ≡ place_among ns n
  place_meant u n is AreMeant.none = refl
  place_meant u n is (AreMeant.more {u = v} {n = m} {us = us} {ns = ns} isv rest) =
      ap (λ b. cond b (Some 1) (option_map (λ k. k + 1) (place_in us u))) (sym (same_meant uris table v u m n isv is))
      ∙ ap (λ o. cond (is_same m n) (Some 1) (option_map (λ k. k + 1) o)) (place_meant u n is rest)

  number_meant : (p : Prefixes) (u : Uri) (n : Namespace) {us : List Uri} {ns : List Namespace} → AreBound p us → AreMeant uris us ns → uri_meant uris u ≡ Some n → number_of p u ≡ number_among ns n
  number_meant p u n bound are is = ap (λ o. unwrap_or o 0) (bound.numbered u ∙ ap (λ l. place_in l u) bound.bound ∙ place_meant u n is are)

  -- ---- what terms need

  unless_meant : (b : Bool) (u : Uri) (n : Namespace) → uri_meant uris u ≡ Some n → AreMeant uris (cons_option (unless b u) []) (cons_option (namespace_unless b n) [])
  unless_meant true u n is = AreMeant.none
  unless_meant false u n is = AreMeant.more is AreMeant.none

  needs_namespace : (u : Uri) (n : Namespace) → uri_meant uris u ≡ Some n → AreMeant uris (cons_option (unless (u.index == 2) u) []) (cons_option (namespace_unless (is_same n (uri xml_uri)) n) [])
  needs_namespace u n is = subst (λ b. AreMeant uris (cons_option (unless (u.index == 2) u) []) (cons_option (namespace_unless b n) [])) (is_xml u n is) (unless_meant (u.index == 2) u n is)

  needs_library : (u : Uri) (n : Namespace) (name : Text) → uri_meant uris u ≡ Some n
      → AreMeant uris (cons_option (unless (u.index == 3 || is_built_in u name) u) []) (cons_option (namespace_unless (is_same n (uri xsd_uri) || is_keyword_type n name) n) [])
  needs_library u n name is =
      subst (λ b. AreMeant uris (cons_option (unless (u.index == 3 || is_built_in u name) u) []) (cons_option (namespace_unless b n) []))
      (ap (λ b. b || is_built_in u name) (is_xsd u n is) ∙ ap (λ b. is_same n (uri xsd_uri) || b) (is_keyword u n name is))
      (unless_meant (u.index == 3 || is_built_in u name) u n is)

  -- what a term that is known needs
  record Needs (x : CodeTerm) (ts : List Term) : Type 0 where
    namespaces : AreMeant uris (cons_option (needed_namespace x) []) (filter_map namespace_needed ts)
    libraries : AreMeant uris (cons_option (needed_library x) []) (filter_map library_needed ts)

  from_single : (P : List Term → Type 0) (y : Term) (ts : List Term) → Some y ∷ [] ≡ known ts → P (y ∷ []) → P ts
  from_single P y ts e p =
      let s = single (Some y) ts e in
      subst P (ap (λ x. x ∷ []) (same_Some y s.term s.meant) ∙ sym s.is) p

  from_mapped : (P : List Term → Type 0) (f : Namespace → Term) (o : Option Namespace) (ts : List Term) → option_map f o ∷ [] ≡ known ts → ((n : Namespace) → o ≡ Some n → P (f n ∷ [])) → P ts
  from_mapped P f o ts e p =
      let s = single (option_map f o) ts e in
      let m = mapped f o s.term s.meant in
      subst P (ap (λ x. x ∷ []) m.2 ∙ sym s.is) (p m.0 m.1)

  record SignFacts (s : Sign) : Type 0 where
    namespaces : filter_map namespace_needed (sign_terms s) ≡ []
    libraries : filter_map library_needed (sign_terms s) ≡ []
    printed : (ns ls : List Namespace) → sign_tokens s ≡ flat_map (tokens_of ns ls) (sign_terms s)

  sign_facts : (s : Sign) → SignFacts s
  sign_facts g.Nothing = record { namespaces = refl; libraries = refl; printed = λ ns ls. refl }
  sign_facts g.Space = record { namespaces = refl; libraries = refl; printed = λ ns ls. refl }
  sign_facts g.LineEnd = record { namespaces = refl; libraries = refl; printed = λ ns ls. refl }
  sign_facts g.Comma = record { namespaces = refl; libraries = refl; printed = λ ns ls. refl }
  sign_facts g.Ampersand = record { namespaces = refl; libraries = refl; printed = λ ns ls. refl }
  sign_facts g.Bar = record { namespaces = refl; libraries = refl; printed = λ ns ls. refl }
  sign_facts g.Minus = record { namespaces = refl; libraries = refl; printed = λ ns ls. refl }
  sign_facts g.Equals = record { namespaces = refl; libraries = refl; printed = λ ns ls. refl }
  sign_facts g.ChoiceEquals = record { namespaces = refl; libraries = refl; printed = λ ns ls. refl }
  sign_facts g.InterleaveEquals = record { namespaces = refl; libraries = refl; printed = λ ns ls. refl }
  sign_facts g.CloseParenthesis = record { namespaces = refl; libraries = refl; printed = λ ns ls. refl }
  sign_facts g.OpenBrace = record { namespaces = refl; libraries = refl; printed = λ ns ls. refl }
  sign_facts g.OpenBraceLine = record { namespaces = refl; libraries = refl; printed = λ ns ls. refl }
  sign_facts g.CloseBrace = record { namespaces = refl; libraries = refl; printed = λ ns ls. refl }
  sign_facts g.CloseBraceAlone = record { namespaces = refl; libraries = refl; printed = λ ns ls. refl }
  sign_facts g.CloseBraceLine = record { namespaces = refl; libraries = refl; printed = λ ns ls. refl }
  sign_facts g.BracedText = record { namespaces = refl; libraries = refl; printed = λ ns ls. refl }
  sign_facts g.Question = record { namespaces = refl; libraries = refl; printed = λ ns ls. refl }
  sign_facts g.Star = record { namespaces = refl; libraries = refl; printed = λ ns ls. refl }
  sign_facts g.Plus = record { namespaces = refl; libraries = refl; printed = λ ns ls. refl }

  one_needs : (x : CodeTerm) (ts : List Term) → term_meant uris x ≡ known ts → Needs x ts
  one_needs (t.Sign s) ts e =
      let facts = sign_facts s in
      subst (Needs (t.Sign s)) (known_same (sign_terms s) ts e)
      (record { namespaces = subst (AreMeant uris []) (sym facts.namespaces) AreMeant.none; libraries = subst (AreMeant uris []) (sym facts.libraries) AreMeant.none })
  one_needs (t.Keyword word) ts e = from_single (Needs (t.Keyword word)) (keyword word) ts e (record { namespaces = AreMeant.none; libraries = AreMeant.none })
  one_needs (t.Identifier name) ts e = from_single (Needs (t.Identifier name)) (identifier name.now) ts e (record { namespaces = AreMeant.none; libraries = AreMeant.none })
  one_needs (t.Local name) ts e = from_single (Needs (t.Local name)) (local name.now) ts e (record { namespaces = AreMeant.none; libraries = AreMeant.none })
  one_needs t.Parenthesis ts e = from_single (Needs t.Parenthesis) (symbol (codes "(")) ts e (record { namespaces = AreMeant.none; libraries = AreMeant.none })
  one_needs t.AnyName ts e = from_single (Needs t.AnyName) (symbol (codes "*")) ts e (record { namespaces = AreMeant.none; libraries = AreMeant.none })
  one_needs (t.Literal text) ts e = from_single (Needs (t.Literal text)) (literal text.now) ts e (record { namespaces = AreMeant.none; libraries = AreMeant.none })
  one_needs (t.Named u name) ts e = from_mapped (Needs (t.Named u name)) (λ n. prefixed n name.now) (uri_meant uris u) ts e (λ n is. record { namespaces = needs_namespace u n is; libraries = AreMeant.none })
  one_needs (t.AnyOf u) ts e = from_mapped (Needs (t.AnyOf u)) any_of (uri_meant uris u) ts e (λ n is. record { namespaces = needs_namespace u n is; libraries = AreMeant.none })
  one_needs (t.Prefix u) ts e = from_mapped (Needs (t.Prefix u)) prefix (uri_meant uris u) ts e (λ n is. record { namespaces = needs_namespace u n is; libraries = AreMeant.none })
  one_needs (t.Datatype u name) ts e = from_mapped (Needs (t.Datatype u name)) (λ n. datatype n name.now) (uri_meant uris u) ts e (λ n is. record { namespaces = AreMeant.none; libraries = needs_library u n name.now is })

  behind_option : (o : Option Uri) (us : List Uri) → cons_option o [] ++ us ≡ cons_option o us
  behind_option None us = refl
  behind_option (Some u) us = refl

  namespaces_meant : {ps : List Placed} {ts : List Term} → TermsMean uris ps ts → AreMeant uris (needed_namespaces ps) (filter_map namespace_needed ts)
  namespaces_meant TermsMean.none = AreMeant.none
  namespaces_meant (TermsMean.more {p = p} {ps = ps} ts us e rest) =
      subst (AreMeant uris (needed_namespaces (p ∷ ps))) (sym (filter_map-append namespace_needed ts us))
      (subst (λ l. AreMeant uris l (filter_map namespace_needed ts ++ filter_map namespace_needed us)) (behind_option (needed_namespace p.term) (needed_namespaces ps))
      (both_meant (one_needs p.term ts e).namespaces (namespaces_meant rest)))

  libraries_meant : {ps : List Placed} {ts : List Term} → TermsMean uris ps ts → AreMeant uris (needed_libraries ps) (filter_map library_needed ts)
  libraries_meant TermsMean.none = AreMeant.none
  libraries_meant (TermsMean.more {p = p} {ps = ps} ts us e rest) =
      subst (AreMeant uris (needed_libraries (p ∷ ps))) (sym (filter_map-append library_needed ts us))
      (subst (λ l. AreMeant uris l (filter_map library_needed ts ++ filter_map library_needed us)) (behind_option (needed_library p.term) (needed_libraries ps))
      (both_meant (one_needs p.term ts e).libraries (libraries_meant rest)))

  -- ---- the tokens of terms

  -- prefixes have the numbers of these namespaces and libraries
  record Numbers (d : Declared) (ns ls : List Namespace) : Type 0 where
    namespaces : (u : Uri) (n : Namespace) → uri_meant uris u ≡ Some n → number_of d.namespaces u ≡ number_among ns n
    libraries : (u : Uri) (n : Namespace) → uri_meant uris u ≡ Some n → number_of d.libraries u ≡ number_among ls n

  prefix_printed : {d : Declared} {ns ls : List Namespace} (u : Uri) (n : Namespace) → Numbers d ns ls → uri_meant uris u ≡ Some n → prefix_bytes d u ≡ namespace_prefix ns n
  prefix_printed {d = d} u n numbers is =
      ap (λ b. if b then codes "xml" else numbered_bytes 110 (number_of d.namespaces u)) (is_xml u n is)
      ∙ ap (λ k. if is_same n (uri xml_uri) then codes "xml" else numbered_bytes 110 k) (numbers.namespaces u n is)

  type_printed : {d : Declared} {ns ls : List Namespace} (u : Uri) (n : Namespace) (name : Text) → Numbers d ns ls → uri_meant uris u ≡ Some n → datatype_token d u name ≡ type_tokens ls n name
  type_printed {d = d} u n name numbers is =
      let of_xsd = one_token Prefixed (codes "xsd" ++ 58 ∷ name) in
      let of_number : ℕ → List Spelled = λ k. one_token Prefixed (numbered_bytes 100 k ++ 58 ∷ name) in
      ap (λ b. if b then of_xsd else (if is_built_in u name then word_token name else of_number (number_of d.libraries u))) (is_xsd u n is)
      ∙ ap (λ b. if is_same n (uri xsd_uri) then of_xsd else (if b then word_token name else of_number (number_of d.libraries u))) (is_keyword u n name is)
      ∙ ap (λ k. if is_same n (uri xsd_uri) then of_xsd else (if is_keyword_type n name then word_token name else of_number k)) (numbers.libraries u n is)

  one_printed : {d : Declared} {ns ls : List Namespace} (x : CodeTerm) (ts : List Term) → Numbers d ns ls → term_meant uris x ≡ known ts → term_tokens d x ≡ flat_map (tokens_of ns ls) ts
  one_printed {ns = ns} {ls = ls} (t.Sign s) ts numbers e = (sign_facts s).printed ns ls ∙ ap (flat_map (tokens_of ns ls)) (known_same (sign_terms s) ts e)
  one_printed {d = d} {ns = ns} {ls = ls} (t.Keyword word) ts numbers e = from_single (λ l. term_tokens d (t.Keyword word) ≡ flat_map (tokens_of ns ls) l) (keyword word) ts e refl
  one_printed {d = d} {ns = ns} {ls = ls} (t.Identifier name) ts numbers e = from_single (λ l. term_tokens d (t.Identifier name) ≡ flat_map (tokens_of ns ls) l) (identifier name.now) ts e (sym (append-nil (identifier_token name.now)))
  one_printed {d = d} {ns = ns} {ls = ls} (t.Local name) ts numbers e = from_single (λ l. term_tokens d (t.Local name) ≡ flat_map (tokens_of ns ls) l) (local name.now) ts e (sym (append-nil (word_token name.now)))
  one_printed {d = d} {ns = ns} {ls = ls} t.Parenthesis ts numbers e = from_single (λ l. term_tokens d t.Parenthesis ≡ flat_map (tokens_of ns ls) l) (symbol (codes "(")) ts e refl
  one_printed {d = d} {ns = ns} {ls = ls} t.AnyName ts numbers e = from_single (λ l. term_tokens d t.AnyName ≡ flat_map (tokens_of ns ls) l) (symbol (codes "*")) ts e refl
  one_printed {d = d} {ns = ns} {ls = ls} (t.Literal text) ts numbers e = from_single (λ l. term_tokens d (t.Literal text) ≡ flat_map (tokens_of ns ls) l) (literal text.now) ts e (sym (append-nil (literal_tokens text.now)))
  one_printed {d = d} {ns = ns} {ls = ls} (t.Named u name) ts numbers e = from_mapped (λ l. term_tokens d (t.Named u name) ≡ flat_map (tokens_of ns ls) l) (λ n. prefixed n name.now) (uri_meant uris u) ts e
      (λ n is. ap (λ x. one_token Prefixed (x ++ 58 ∷ name.now)) (prefix_printed u n numbers is))
  one_printed {d = d} {ns = ns} {ls = ls} (t.AnyOf u) ts numbers e = from_mapped (λ l. term_tokens d (t.AnyOf u) ≡ flat_map (tokens_of ns ls) l) any_of (uri_meant uris u) ts e
      (λ n is. ap (λ x. one_token AnyOf (x ++ codes ":*")) (prefix_printed u n numbers is))
  one_printed {d = d} {ns = ns} {ls = ls} (t.Prefix u) ts numbers e = from_mapped (λ l. term_tokens d (t.Prefix u) ≡ flat_map (tokens_of ns ls) l) prefix (uri_meant uris u) ts e
      (λ n is. ap word_token (prefix_printed u n numbers is) ∙ sym (append-nil (word_token (namespace_prefix ns n))))
  one_printed {d = d} {ns = ns} {ls = ls} (t.Datatype u name) ts numbers e = from_mapped (λ l. term_tokens d (t.Datatype u name) ≡ flat_map (tokens_of ns ls) l) (λ n. datatype n name.now) (uri_meant uris u) ts e
      (λ n is. type_printed u n name.now numbers is ∙ sym (append-nil (type_tokens ls n name.now)))

  all_printed : {d : Declared} {ns ls : List Namespace} {ps : List Placed} {ts : List Term} → Numbers d ns ls → TermsMean uris ps ts → terms_tokens d ps ≡ flat_map (tokens_of ns ls) ts
  all_printed numbers TermsMean.none = refl
  all_printed {d = d} {ns = ns} {ls = ls} numbers (TermsMean.more {p = p} {ps = ps} ts us e rest) =
      ap (λ l. l ++ terms_tokens d ps) (one_printed p.term ts numbers e) ∙ ap (λ l. flat_map (tokens_of ns ls) ts ++ l) (all_printed numbers rest) ∙ sym (flat_map-append (tokens_of ns ls) ts us)

  -- ---- declarations

  text_or : (o : Option (Bor Text)) (q : Text) → option_map (λ (x : Bor Text). x.now) o ≡ Some q → option_map_or (λ (x : Bor Text). x.now) o [] ≡ q
  text_or None q e = absurd (none-some q e)
  text_or (Some x) q e = same_Some x.now q e

  named_uri : (u : Uri) (n : Namespace) → Means uris u n → uri_tokens uris u ≡ namespace_tokens n
  named_uri u inherited (Means.first begins) = cond-true (u.index == 0) (one_token Keyword (spelling w.Inherit)) (literal_tokens (uri_text uris u)) (zero_is u.index begins)
  named_uri u (uri q) (Means.other some is) =
      cond-false (u.index == 0) (one_token Keyword (spelling w.Inherit)) (literal_tokens (uri_text uris u)) (some_is u.index some) ∙ ap literal_tokens (text_or (slice_get uris.texts.items u.index) q is)

  uri_printed : (u : Uri) (n : Namespace) → uri_meant uris u ≡ Some n → uri_tokens uris u ≡ namespace_tokens n
  uri_printed u n is = named_uri u n (meaning uris u n is)

  default_is : (u : Uri) (n : Namespace) → Means uris u n → uri_tokens uris u ≡ namespace_tokens n → default_tokens uris u ≡ default_declared n
  default_is u inherited (Means.first begins) e = cond-true (u.index == 0) [] (one_token Keyword (spelling w.Default) ++ (one_token Keyword (spelling w.Namespace) ++ bound_tokens uris u)) (zero_is u.index begins)
  default_is u (uri q) (Means.other some is) e =
      cond-false (u.index == 0) [] (one_token Keyword (spelling w.Default) ++ (one_token Keyword (spelling w.Namespace) ++ bound_tokens uris u)) (some_is u.index some)
      ∙ ap (λ l. one_token Keyword (spelling w.Default) ++ (one_token Keyword (spelling w.Namespace) ++ (one_token Symbol (codes "=") ++ l))) e

  prefixes_printed : (word : Word) (letter before : ℕ) (bs : List BoundUri) (ns : List Namespace) → AreMeant uris (map (λ b. b.uri) bs) ns → prefixes_tokens uris word letter before bs ≡ prefixes_declared word letter before ns
  prefixes_printed word letter before [] [] AreMeant.none = refl
  prefixes_printed word letter before [] (n ∷ ns) are = elim are [ ]
  prefixes_printed word letter before (b ∷ bs) [] are = elim are [ ]
  prefixes_printed word letter before (b ∷ bs) (n ∷ ns) (AreMeant.more is rest) =
      ap (λ l. (one_token Keyword (spelling word) ++ (word_token (numbered_bytes letter (before + 1)) ++ (one_token Symbol (codes "=") ++ l))) ++ prefixes_tokens uris word letter (before + 1) bs) (uri_printed b.uri n is)
      ∙ ap (λ l. (one_token Keyword (spelling word) ++ (word_token (numbered_bytes letter (before + 1)) ++ bound_to n)) ++ l) (prefixes_printed word letter (before + 1) bs ns rest)

-- ---- all of them

pub printed_meant : (d : Declared) (ps : List Placed) (default : Namespace) (ts : List Term) → IsPrintable d ps default ts → printed_tokens d ps ≡ schema_tokens default ts
printed_meant d ps default ts is =
    let uris = d.uris.now in
    let table = is.table in
    let mean = terms_mean uris ps ts is.terms in
    let ns = once (filter_map namespace_needed ts) in
    let ls = once (filter_map library_needed ts) in
    let of_names = once_meant uris table (namespaces_meant uris table mean) in
    let of_types = once_meant uris table (libraries_meant uris table mean) in
    let numbers : Numbers uris table d ns ls = record {
      namespaces = λ u n e. number_meant uris table d.namespaces u n is.namespaces of_names e;
      libraries = λ u n e. number_meant uris table d.libraries u n is.libraries of_types e;
    } in
    let declared_names = prefixes_printed uris table w.Namespace 110 0 d.namespaces.bound.items ns (subst (λ l. AreMeant uris l ns) (sym is.namespaces.bound) of_names) in
    let declared_types = prefixes_printed uris table w.Datatypes 100 0 d.libraries.bound.items ls (subst (λ l. AreMeant uris l ls) (sym is.libraries.bound) of_types) in
    let declared_default = default_is uris table d.default default (meaning uris d.default default is.default) (uri_printed uris table d.default default is.default) in
    ap (λ l. declared_tokens d ++ l) (all_printed uris table numbers mean)
    ∙ ap (λ l. (default_tokens uris d.default ++ (prefixes_tokens uris w.Namespace 110 0 d.namespaces.bound.items ++ l)) ++ flat_map (tokens_of ns ls) ts) declared_types
    ∙ ap (λ l. (default_tokens uris d.default ++ (l ++ prefixes_declared w.Datatypes 100 0 ls)) ++ flat_map (tokens_of ns ls) ts) declared_names
    ∙ ap (λ l. (l ++ (prefixes_declared w.Namespace 110 0 ns ++ prefixes_declared w.Datatypes 100 0 ls)) ++ flat_map (tokens_of ns ls) ts) declared_default
