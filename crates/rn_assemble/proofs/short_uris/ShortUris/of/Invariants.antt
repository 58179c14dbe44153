-- The URIs so far have their short texts, and the others are still to come.
use Rattle.std.proofs.Common.{◌≡◌, ◌++◌, List}
use Rattle.std.specs.Borrow.{Bor}
use Rattle.rn_text.specs.Texts.{Text}
use Rattle.rn_assemble.specs.ShortTexts.{listed_texts, short_list}
use Rattle.rn_assemble.specs.inside.Views.{texts_of}
use Rattle.rn_assemble.proofs.short_uris.ShortUris.of.Given as goal

abbrev pub invariant-loop-uri : goal.invariant-loop-uri
invariant-loop-uri l = (us : List (Bor Text)) × (us ++ l.uri-iterator ≡ l.fn.uris.keys) × (listed_texts l.list.items ≡ short_list 0 (texts_of us))
