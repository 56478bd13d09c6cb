-- Texts judged in turn.
use Rattle.std.proofs.Common.{◌≡◌, ◌∙◌, ℕ, ◌+◌, ◌<◌, ◌≤◌, List, [], ◌∷◌, ◌++◌, length, take, get_or, refl, sym, ap, subst, arith}
use Rattle.std.proofs.lemmas.List.{length-take-le, take_all}
use Rattle.std.proofs.lemmas.Option.{slice_get_read}
use Rattle.bl_face.specs.declared.face.Face.{Face}
use Rattle.bl_link.proofs.Lists.{take-next}
use Rattle.bl_link.specs.Files.{FailsAtFile}
use Rattle.bl_link_files.specs.declared.fault.ProgramFault.{ProgramFault}
use Rattle.bl_link_files.specs.declared.fault.ProgramFault.TheVariants as fault
use Rattle.bl_link_files.specs.inner.Judged.{AreFirstGood, IsStopOf, NextTextStops, StopsInTurn, TextsStop}
use Rattle.bl_module_laws.specs.Files.{AreGoodFiles}

module _ (texts : List (List ℕ)) (k : ℕ) (text : List ℕ) (less : k < length texts) (at : text ≡ get_or texts k text) (judged : List (List ℕ))
    (first : judged ≡ take k texts) where
  pub judged_next : judged ++ text ∷ [] ≡ take (k + 1) texts
  judged_next = ap (λ ts. ts ++ text ∷ []) first ∙ sym (take-next texts k text (slice_get_read texts (length texts) k text refl less at))

  pub judged_count : length judged ≡ k
  judged_count = ap length first ∙ length-take-le k texts (omega (arith, less))

  -- the next text isn't good
  pub next_stops : (count other : ℕ) (told : ProgramFault) → other ≡ count → NextTextStops other judged text told → StopsInTurn count texts told
  next_stops count other fault.Unread same why = absurd why
  next_stops count other (fault.InTurn file rule place also) same fails =
      let is : file ≡ k + 1 = fails.0 ∙ ap (λ n. n + 1) judged_count in
      subst (λ ts. FailsAtFile count ts file rule place also) (judged_next ∙ ap (λ n. take n texts) (sym is))
      (subst (λ n. FailsAtFile n (judged ++ text ∷ []) file rule place also) same fails.1)
  next_stops count other (fault.Together file rule place) same why = absurd why
  next_stops count other fault.NoMemory same why = tt

pub judged_all : (texts judged : List (List ℕ)) (k : ℕ) → length texts ≤ k → judged ≡ take k texts → judged ≡ texts
judged_all texts judged k over first = first ∙ take_all k texts over

-- a rule that fails for one of the texts
pub turn_stops : (count : ℕ) (texts : List (List ℕ)) (told : ProgramFault) → StopsInTurn count texts told → IsStopOf count texts told
turn_stops count texts fault.Unread why = absurd why
turn_stops count texts (fault.InTurn file rule place also) fails = fails
turn_stops count texts (fault.Together file rule place) why = absurd why
turn_stops count texts fault.NoMemory why = tt

pub turn_ends : (texts : List (List ℕ)) (told : ProgramFault) → StopsInTurn (length texts) texts told → TextsStop texts told
turn_ends texts fault.Unread why = absurd why
turn_ends texts (fault.InTurn file rule place also) fails = fails
turn_ends texts (fault.Together file rule place) why = absurd why
turn_ends texts fault.NoMemory why = tt

-- all texts are good files, the first of so many
pub all_good : (count other : ℕ) (texts judged : List (List ℕ)) (faces : List Face) → other ≡ count → judged ≡ texts → AreGoodFiles other judged faces →
    AreFirstGood count texts
all_good count other texts judged faces same are good = record {
  faces = faces;
  good = subst (λ ts. AreGoodFiles count ts faces) are (subst (λ n. AreGoodFiles n judged faces) same good);
}
