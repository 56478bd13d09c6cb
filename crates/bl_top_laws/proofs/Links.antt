-- How `link` ends where no count of faults rises.
use Rattle.std.proofs.Common.{◌≡◌, ◌∙◌, ◌++◌, ℕ, List, length, refl, sym, ap, subst, inl, inr}
use Rattle.bl_face.specs.declared.face.Face.{Face}
use Rattle.bl_link.specs.Files.{FailsAtFile}
use Rattle.bl_link.specs.Linked.{HaveTree}
use Rattle.bl_link_files.specs.Programs.{FailsInTurn, FilesFailTogether, IsProgramOfFiles, IsUnreadInTurn}
use Rattle.bl_module_files.specs.Told.{AreTold, FirstToldTextsAreRead, ToldFilesHaveATextEach, ToldTextsAreRead}
use Rattle.bl_module_files.specs.Turns.{Left, WereRead}
use Rattle.bl_module_laws.specs.Files.{AreGoodFiles}
use Rattle.bl_parse_tree.specs.declared.raw.Raw.{Raw}
use Rattle.bl_rules.specs.Rules.{TreeFails, TreePasses}
use Rattle.bl_top.specs.Link.{IsBuiltOfFiles, LinkEnds, stopped, written}
use Rattle.bl_top_args.specs.Jobs.{Word}
use Rattle.bl_top_commands.specs.Calls.{Call, HasRisen}
use Rattle.bl_top_commands.specs.Linked.{AreNotLinked, refused_in, refused_together, short, unread}
use Rattle.bl_top_commands.specs.Results.{WritesResult, fault, nothing, want, whole}
use Rattle.bl_top_commands.specs.declared.status.Status.{Status}
use Rattle.bl_top_commands.specs.declared.status.Status.TheVariants as status
use Rattle.bl_top_laws.proofs.Faces.{none_at}
use Rattle.bl_top_laws.proofs.Runs.{IsDone, result_done}
use Rattle.bl_top_laws.proofs.Turns.{first_were_read}
use Rattle.bl_top_laws.specs.Complete.{NoneOfThemRose}
use Rattle.bl_tree.specs.declared.place.Place.{Place}
use Rattle.bl_tree.specs.declared.program.Program.{Program}
use Rattle.bl_tree.specs.declared.rule.Rule.{Rule}
use Rattle.bl_link_files.proofs.Fronts.{read_count}

-- the texts of files decide what comes of their link
pub record LinksDecide : Type 0 where
  pub read : ToldTextsAreRead
  pub first : FirstToldTextsAreRead
  pub counted : ToldFilesHaveATextEach
  pub good : (texts : List (List ℕ)) (faces : List Face) (file : ℕ) (rule : Rule) (place : Place) (also : List Place) →
      AreGoodFiles (length texts) texts faces → ¬ FailsAtFile (length texts) texts file rule place also
  pub more : (count : ℕ) (texts more : List (List ℕ)) (file : ℕ) (rule : Rule) (place : Place) (also : List Place) →
      FailsAtFile count texts file rule place also → FailsAtFile count (texts ++ more) file rule place also
  pub one : (texts : List (List ℕ)) (raw other : Raw) → HaveTree texts raw → HaveTree texts other → raw ≡ other

module _ (decide : LinksDecide) (c : Call) (names : List Word) (none : NoneOfThemRose c names) where
  never_unread : IsUnreadInTurn c.left (λ name. (c.file name).before) (λ name. (c.file name).after) names → ⊥
  never_unread is = none_at c names is.earlier is.name is.later is.names_are none is.rose

  refused_stops : (ended : Status) (line : List ℕ) → AreNotLinked c names ended line → IsDone ended status.Refused
  refused_stops _ _ (refused_in file rule place also is) = inr refl
  refused_stops _ _ (refused_together file rule place is) = inr refl
  refused_stops _ _ (unread is) = absurd (never_unread is)
  refused_stops _ _ short = inl refl

  never_built : ((program : Program) → ¬ IsProgramOfFiles c.left names program) → (ended : Status) → WritesResult (IsBuiltOfFiles c.left names) c.out ended →
      IsDone ended status.Refused
  never_built no_program _ (whole text is grew) = absurd (no_program is.program is.of_files)
  never_built no_program _ (fault text is grew risen) = absurd (no_program is.program is.of_files)
  never_built no_program _ (want text is grew) = inl refl
  never_built no_program _ (nothing kept) = inl refl

  -- ---- a rule fails for one of the first files

  module _ (earlier later : List Word) (are : names ≡ earlier ++ later) (texts : List (List ℕ)) (told : AreTold c.left earlier texts) (file : ℕ) (rule : Rule)
      (place : Place) (also : List Place) (fails : FailsAtFile (length names) texts file rule place also) where
    -- it fails at the texts that were read of all files
    fails_in : (found : List (List ℕ)) (after : Left) → WereRead c.left names found after → FailsAtFile (length found) found file rule place also
    fails_in found after read =
        let first = first_were_read c.left after names found earlier later are read in
        let same : first.found ≡ texts = decide.read c.left first.now earlier texts first.found told first.read in
        subst (λ n. FailsAtFile n found file rule place also) (sym (read_count c.left after names found read))
        (subst (λ ts. FailsAtFile (length names) ts file rule place also) (sym (first.texts_are ∙ ap (λ ts. ts ++ first.rest) same))
        (decide.more (length names) texts first.rest file rule place also fails))

    pub link_fails_in : (ended : Status) (line : List ℕ) → LinkEnds c names ended line → IsDone ended status.Refused
    link_fails_in ended _ (written writes) =
        never_built (λ program is. decide.good is.texts is.are.faces file rule place also is.are.good (fails_in is.texts is.after is.read)) ended writes
    link_fails_in ended line (stopped why kept) = refused_stops ended line why

  module _ (texts : List (List ℕ)) (told : AreTold c.left names texts) where
    texts_are : (found : List (List ℕ)) (after : Left) → WereRead c.left names found after → found ≡ texts
    texts_are found after read = decide.read c.left after names texts found told read

    -- a rule that fails in turn fails at one of the texts
    fails_at : (file : ℕ) (rule : Rule) (place : Place) (also : List Place) → FailsInTurn c.left names file rule place also →
        FailsAtFile (length texts) texts file rule place also
    fails_at file rule place also is =
        let behind = decide.first c.left is.now is.earlier is.later texts is.texts (subst (λ ns. AreTold c.left ns texts) is.names_are told) is.read in
        subst (λ ts. FailsAtFile (length texts) ts file rule place also) (sym behind.1)
        (decide.more (length texts) is.texts behind.0 file rule place also
        (subst (λ n. FailsAtFile n is.texts file rule place also) (sym (decide.counted c.left names texts told)) is.fails))

    -- ---- all files are good, and their joined texts have this tree

    module _ (faces : List Face) (good : AreGoodFiles (length texts) texts faces) (raw : Raw) (tree : HaveTree texts raw) where
      -- the tree of the texts that were read
      tree_is : (found : List (List ℕ)) (after : Left) (other : Raw) → WereRead c.left names found after → HaveTree found other → other ≡ raw
      tree_is found after other read has = decide.one texts other raw (subst (λ ts. HaveTree ts other) (texts_are found after read) has) tree

      never_together : TreePasses raw → (file : ℕ) (rule : Rule) (place : Place) → FilesFailTogether c.left names file rule place → ⊥
      never_together passes file rule place is =
          let fail = is.fail.fail in
          passes rule fail.place fail.also
          (subst (λ (r : Raw). TreeFails r rule fail.place fail.also) (tree_is is.texts is.after fail.raw is.read fail.tree) fail.first.fails)

      passes_stops : TreePasses raw → (ended : Status) (line : List ℕ) → AreNotLinked c names ended line → IsDone ended status.Ok
      passes_stops passes _ _ (refused_in file rule place also is) =
          absurd (decide.good texts faces file rule place also good (fails_at file rule place also is))
      passes_stops passes _ _ (refused_together file rule place is) = absurd (never_together passes file rule place is)
      passes_stops passes _ _ (unread is) = absurd (never_unread is)
      passes_stops passes _ _ short = inl refl

      pub link_due : TreePasses raw → ¬ HasRisen c.out.faults → (ended : Status) (line : List ℕ) → LinkEnds c names ended line → IsDone ended status.Ok
      link_due passes none_out ended _ (written writes) = result_done (IsBuiltOfFiles c.left names) c.out ended none_out writes
      link_due passes none_out ended line (stopped why kept) = passes_stops passes ended line why

      no_program : ¬ TreePasses raw → (program : Program) → ¬ IsProgramOfFiles c.left names program
      no_program fails program is =
          let have = is.are.have in
          fails (subst (λ (r : Raw). TreePasses r) (tree_is is.texts is.after have.raw is.read have.tree) have.passes)

      pub link_fails : ¬ TreePasses raw → (ended : Status) (line : List ℕ) → LinkEnds c names ended line → IsDone ended status.Refused
      link_fails fails ended _ (written writes) = never_built (no_program fails) ended writes
      link_fails fails ended line (stopped why kept) = refused_stops ended line why
