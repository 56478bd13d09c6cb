-- What it is to set a register in memory, and what statements leave there one after another.
use Rattle.std.proofs.Common.{◌≡◌, ℕ, true, false, List, [], ◌∷◌, ◌++◌, Option, Some, None, ap, ◌∙◌}
use Rattle.std.proofs.lemmas.Option.{same_Some}
use Rattle.bl_tree.specs.declared.text.Text.{Text}
use Rattle.bl_tree.specs.declared.c.CPlace.{CPlace}
use Rattle.bl_tree.specs.declared.c.CStmt.{CStmt}
use Rattle.bl_ctext_semantics.specs.Course.{End, breaks, following_end, goes_on, returns, traps}
use Rattle.bl_ctext_semantics.specs.Memory.{CValue, Location, Memory, Projection, member, value_at}
use Rattle.bl_ctext_semantics.specs.Meaning.{Counted, Scope, block_c, each_of, further, given, location_c, named_location, next, runs_c, value_c, way_of}
use Rattle.bl_emit_acts.specs.Trees.{c_place, c_read, c_step}
use Rattle.bl_emit_spec.specs.Names.{counter_name, counter_place}
use Rattle.bl_emit_spec_laws.specs.Registers.Registers.{frame_at}
use Rattle.bl_emit_spec_laws.proofs.OnRegisters.Setting.{GoesTo}
use Rattle.bl_emit_spec_laws_files.proofs.OnBegins.Evaluated.{place-location, read-value, step-way}

-- ---- places

module _ (scope : Scope) (m : Memory) where
  pub local_answer : (name : Text) → (location_c (c_place false name []) scope m).answer ≡ Some (named_location scope false name)
  local_answer name = ap (λ (c : Counted Location). c.answer) (place-location scope m false name [])

  abbrev stepped : Location → Counted (List Projection) → Option Location
  stepped start first =
      (next (next first (λ a. next (each_of [] scope m) (λ others. given (Some (a ∷ others)))))
      (λ ways. given (Some (further start (way_of ways))))).answer

  pub counter_answer : (k : ℕ) → (location_c (counter_place k) scope m).answer ≡ Some (further (frame_at scope) (member (counter_name k) ∷ []))
  counter_answer k =
      ap (λ (c : Counted Location). c.answer) (place-location scope m true _ (c_step (counter_name k) ∷ []))
      ∙ ap (stepped (named_location scope true _)) (step-way scope m (counter_name k))

  -- what stands at a place
  pub read_answer : (place : CPlace) (at : Location) → (location_c place scope m).answer ≡ Some at → (value_c (c_read place) scope m).answer
      ≡ Some (value_at m at)
  read_answer place at is =
      ap (λ (c : Counted CValue). c.answer) (read-value scope m place) ∙ by (location_c place scope m).count (location_c place scope m).answer is
    where
      by : (n : ℕ) (o : Option Location) → o ≡ Some at → (next (record { count = n; answer = o }) (λ p. given (Some (value_at m p)))).answer
          ≡ Some (value_at m at)
      by n None h = absurd (cc)
      by n (Some p) h = ap (λ p. Some (value_at m p)) (same_Some p at h)

-- ---- statements one after another

module _ (scope : Scope) where
  pub then_goes : (a b : List CStmt) (m : Memory) (P Q : Memory → Type 0) → GoesTo P (block_c a scope m) →
      ((k : Memory) → P k → GoesTo Q (block_c b scope k)) → GoesTo Q (block_c (a ++ b) scope m)
  then_goes [] b m P Q h more = more m h.1
  then_goes (s ∷ a) b m P Q h more =
      by (λ k first. then_goes a b k P Q first more) (runs_c s scope m).count (runs_c s scope m).memory (runs_c s scope m).end h
    where
      by : ((k : Memory) → GoesTo P (block_c a scope k) → GoesTo Q (block_c (a ++ b) scope k)) → (n : ℕ) (k : Memory) (e : End) →
          GoesTo P (following_end n k e (block_c a scope)) → GoesTo Q (following_end n k e (block_c (a ++ b) scope))
      by further n k goes_on h = further k h
      by further n k breaks h = absurd (let no = h.0 in cc)
      by further n k (returns x) h = absurd (let no = h.0 in cc)
      by further n k traps h = absurd (let no = h.0 in cc)
