-- Files that are read one after the other.
use Rattle.std.proofs.Common.{◌≡◌, ℕ, ◌+◌, ◌<◌, List, [], ◌∷◌, ◌++◌, length, map, take, get_or, String, Vec, string_bytes, refl, sym, ap, subst, ◌∙◌}
use Rattle.std.specs.Prelude.{IsErrAnd, IfErr, Result, Ok, Err}
use Rattle.std.specs.List.{AllZip}
use Rattle.std.specs.Option.{option_map}
use Rattle.std.specs.declared.alloc.Global.{Global}
use Rattle.std.proofs.lemmas.List.{get_or-map, map-append}
use Rattle.std.proofs.lemmas.List.Elements.{all_zip_more}
use Rattle.std.proofs.lemmas.Option.{slice_get-map, slice_get_read}
use Rattle.std.proofs.Math.ListN.{length-map}
use Rattle.rn_merge.specs.Runs.{bundles_view}
use Rattle.rn_merge.specs.declared.streams.ReadFault.{ReadFault}
use Rattle.rn_merge.specs.declared.streams.ReadFault.TheVariants as reading
use Rattle.rn_merge.specs.declared.words.ProgramFault.{ProgramFault}
use Rattle.rnc_merge.specs.Inputs.{input_fault, IsUnread, IsInputFault}

module _ (gives : List ℕ → List ℕ → Type 0) (files : List (String Global)) (read : List (Vec ℕ Global)) (i : ℕ) (file : String Global) (within : i < length files) (at : file ≡ get_or files i file) (before : AllZip gives (take i (map string_bytes files)) (bundles_view read)) where
  -- one file more
  pub one_more : (bytes : Vec ℕ Global) → gives (string_bytes file) bytes.items → AllZip gives (take (i + 1) (map string_bytes files)) (bundles_view (read ++ bytes ∷ []))
  one_more bytes given =
      let within' : i < length (map string_bytes files) = rw length-map within in
      let item : string_bytes file ≡ get_or (map string_bytes files) i (string_bytes file) = ap string_bytes at ∙ sym (get_or-map string_bytes files i file (string_bytes file) within) in
      subst (AllZip gives (take (i + 1) (map string_bytes files))) (sym (map-append (λ (v : Vec ℕ Global). v.items) read (bytes ∷ [])))
      (all_zip_more gives (map string_bytes files) (bundles_view read) i (string_bytes file) bytes.items within' item before given)

  unread : (refuses : List ℕ → ReadFault → Type 0) (why : ReadFault) → refuses (string_bytes file) why → IsUnread gives refuses (map string_bytes files) i why
  unread refuses why refused = record {
    path = string_bytes file;
    inputs = bundles_view read;
    at = slice_get-map string_bytes files i ∙ ap (option_map string_bytes) (slice_get_read files (length files) i file refl within at);
    before = before;
    refused = refused;
  }

  by_reason : (refuses : List ℕ → ReadFault → Type 0) (why : ReadFault) → refuses (string_bytes file) why → IsInputFault gives refuses (map string_bytes files) (input_fault i why)
  by_reason refuses reading.Read refused = unread refuses reading.Read refused
  by_reason refuses reading.Large refused = unread refuses reading.Large refused
  by_reason refuses reading.Memory refused = tt

  -- the first file that isn't read
  pub first_unread : (refuses : List ℕ → ReadFault → Type 0) (fault : ProgramFault) → ((why : ReadFault) × refuses (string_bytes file) why × (fault ≡ input_fault i why)) → IsInputFault gives refuses (map string_bytes files) fault
  first_unread refuses fault (why, refused, is) = subst (IsInputFault gives refuses (map string_bytes files)) (sym is) (by_reason refuses why refused)

-- an error that is this fault
pub refused_at : {T : Type 0} (P : ProgramFault → Type 0) (result : Result T ProgramFault) (fault : ProgramFault) → IsErrAnd result (λ f. f ≡ fault) → P fault → IfErr result P
refused_at P (Ok x) fault is p = tt
refused_at P (Err f) fault is p = subst P (sym is) p

-- what is known of the files' paths and of what they gave, at other names for both lists
pub given_as : (gives : List ℕ → List ℕ → Type 0) (paths files : List (String Global)) (read inputs : List (Vec ℕ Global)) → paths ≡ files → inputs ≡ read
    → AllZip gives (map string_bytes paths) (bundles_view read) → AllZip gives (map string_bytes files) (bundles_view inputs)
given_as gives paths files read inputs e f h =
    subst (λ l. AllZip gives (map string_bytes files) (bundles_view l)) (sym f) (subst (λ l. AllZip gives (map string_bytes l) (bundles_view read)) e h)
