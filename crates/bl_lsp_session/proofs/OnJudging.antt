-- What is found in a text, put together.
use Rattle.std.proofs.Common.{◌≡◌, ℕ, List, ap, ◌∙◌}
use Rattle.serde_json.specs.Data.{Data, Items, item, no_items}
use Rattle.bl_lsp.specs.Documents.{Doc}
use Rattle.bl_lsp.specs.Written.{IsMessage}
use Rattle.bl_lsp_answers.specs.Diagnostics.{diagnostic_data, published_data}
use Rattle.bl_lsp_session.specs.Answers.{IsPublished, Publishes}
use Rattle.bl_lsp_session.specs.Found.{Found, fails}
use Rattle.bl_rules.specs.Rules.{FirstFailing}
use Rattle.bl_tree.specs.declared.place.Place.{Place}
use Rattle.bl_tree.specs.declared.rule.Rule.{Rule}

pub found_fails : (uri text : List ℕ) (rule : Rule) (at : Place) (also : List Place) (failing : Data) (found : Items) →
    FirstFailing text rule at also → failing ≡ diagnostic_data uri text rule at also → found ≡ item failing no_items → Found uri text found
found_fails uri text rule at also failing found first is one = fails rule at also first (one ∙ ap (λ d. item d no_items) is)

pub is_published : (doc : Doc) (found : Items) (message : Data) → Found doc.uri doc.text found →
    message ≡ published_data doc.uri doc.version found → IsPublished doc message
is_published doc found message is_found is = record { found = found; is_found = is_found; is = is }

pub publishes : (doc : Doc) (message : Data) (bytes : List ℕ) → IsPublished doc message → IsMessage message bytes → Publishes doc bytes
publishes doc message bytes published framed = record { message = message; is_published = published; is_message = framed }
