-- How calls end that take a message, by how the calls within them end.
use Rattle.std.proofs.Common.{◌≡◌, ℕ, Bool, true, false, List, Option, refl, subst, sym, ◌∙◌}
use Rattle.bl_io.specs.Held.{Appends}
use Rattle.bl_lsp.specs.Deeds.{leave}
use Rattle.bl_lsp.specs.Framing.{at_head, framing_after, says}
use Rattle.bl_lsp.specs.declared.framer.Taken.TheVariants as taken
use Rattle.bl_lsp.specs.declared.phase.Phase.{Phase}
use Rattle.bl_lsp.specs.declared.phase.Phase.TheVariants as phase
use Rattle.bl_lsp_session.specs.Answers.{Hears}
use Rattle.bl_lsp_session.specs.Sessions.{Serves, Stops, TakeEnds, heard, short}
use Rattle.bl_lsp_session.specs.declared.hearing.Heard.{Heard}
use Rattle.bl_lsp_session.specs.declared.serving.Course.{Course}
use Rattle.bl_lsp_session.specs.declared.serving.Course.TheVariants as course
use Rattle.bl_lsp_session.specs.declared.serving.Ended.{Ended}
use Rattle.bl_lsp_session.specs.declared.serving.Ended.TheVariants as ended
use Rattle.bl_lsp_session.specs.declared.serving.Server.{Server}
use Rattle.bl_lsp_session.specs.declared.serving.TheConstants.{NO_MEMORY}
use Rattle.bl_lsp_session.specs.inner.Ends.{HearEnds, SendEnds, WriteEnds, course_behind}
use Rattle.bl_lsp_session.specs.inner.Heard.{IsHeard, leaves}
use Rattle.bl_lsp_session.proofs.Feeding.{taken-whole}
use Rattle.bl_lsp_session.proofs.OnHearing.{left_leaves}

-- ---- what came of a message is sent

send_by : (told : Heard) (behind : Server) (held now : Option (List ℕ)) (left : Bool) (after : Phase) → told.left ≡ left → told.phase ≡ after →
    Appends held told.sent.items now → behind.phase ≡ told.phase → SendEnds told behind held now (course_behind left after)
send_by told behind held now false after left is appends same = (appends, same, left)
send_by told behind held now true phase.Fresh left is appends same = left
send_by told behind held now true phase.Running left is appends same = left
send_by told behind held now true phase.Shut left is appends same = (left, is)

pub send_ends : (told : Heard) (behind : Server) (held now : Option (List ℕ)) (how : Course) → how ≡ course_behind told.left told.phase →
    Appends held told.sent.items now → behind.phase ≡ told.phase → SendEnds told behind held now how
send_ends told behind held now how is appends same =
    subst (SendEnds told behind held now) (sym is) (send_by told behind held now told.left told.phase refl refl appends same)

pub send_fails : (told : Heard) (behind : Server) (bytes : List ℕ) (held now : Option (List ℕ)) (how : Ended) →
    WriteEnds bytes held now (course.Over how) → SendEnds told behind held now (course.Over how)
send_fails told behind bytes held now ended.Failed fails = tt
send_fails told behind bytes held now ended.Left fails = absurd fails
send_fails told behind bytes held now ended.Cut fails = absurd fails
send_fails told behind bytes held now ended.Broken fails = fails
send_fails told behind bytes held now ended.NoMemory fails = fails

-- ---- a message is heard

left-by : (before : Phase) (content : List ℕ) (told : Heard) (is : IsHeard before content told) → told.left ≡ true →
    Hears before content told.sent.items told.phase leave
left-by before content told is left =
    subst (λ todo. Hears before content told.sent.items told.phase todo) (left_leaves is.todo (sym left ∙ is.left)) is.hears

pub hear_ends : (before : Phase) (content : List ℕ) (told : Heard) (behind : Server) (held now : Option (List ℕ)) (how : Course) →
    IsHeard before content told → behind.framer ≡ at_head → SendEnds told behind held now how → HearEnds before content behind held now how
hear_ends before content told behind held now course.On is framer sends =
    record {
      sent = told.sent.items;
      serves = subst (λ p. Serves before content told.sent.items p) (sym sends.1) (heard is.todo is.hears);
      appends = sends.0;
      framer = framer;
    }
hear_ends before content told behind held now (course.Over ended.Left) is framer sends =
    record { sent = told.sent.items; hears = subst (λ p. Hears before content told.sent.items p leave) sends.1 (left-by before content told is sends.0) }
hear_ends before content told behind held now (course.Over ended.Cut) is framer sends =
    (told.phase, record { sent = told.sent.items; hears = left-by before content told is sends })
hear_ends before content told behind held now (course.Over ended.Broken) is framer sends = sends
hear_ends before content told behind held now (course.Over ended.Failed) is framer sends = tt
hear_ends before content told behind held now (course.Over ended.NoMemory) is framer sends = tt

-- memory lacks for what a message asks, which is said
pub short_ends : (before : Phase) (content : List ℕ) (behind : Server) (held now : Option (List ℕ)) (how : Course) → behind.framer ≡ at_head →
    behind.phase ≡ before → WriteEnds NO_MEMORY.now held now how → HearEnds before content behind held now how
short_ends before content behind held now course.On framer same writes =
    record { sent = NO_MEMORY.now; serves = short refl same; appends = writes; framer = framer }
short_ends before content behind held now (course.Over ended.Left) framer same writes = absurd writes
short_ends before content behind held now (course.Over ended.Cut) framer same writes = absurd writes
short_ends before content behind held now (course.Over ended.Broken) framer same writes = writes
short_ends before content behind held now (course.Over ended.Failed) framer same writes = tt
short_ends before content behind held now (course.Over ended.NoMemory) framer same writes = tt

-- ---- a byte is taken

pub whole_ends : (before behind : Server) (byte : ℕ) (content : List ℕ) (held now : Option (List ℕ)) (how : Course) →
    says before.framer byte ≡ taken.Whole → content ≡ (framing_after before.framer byte).got → HearEnds before.phase content behind held now how →
    TakeEnds before byte behind held now how
whole_ends before behind byte content held now course.On said is ends = taken-whole before behind byte content held now said is ends
whole_ends before behind byte content held now (course.Over ended.Left) said is ends =
    record { sent = ends.sent; whole = said; hears = subst (λ c. Hears before.phase c ends.sent phase.Shut leave) is ends.hears }
whole_ends before behind byte content held now (course.Over ended.Cut) said is ends =
    let leaves_with = ends.1 in (
      ends.0,
      record {
        sent = leaves_with.sent;
        whole = said;
        hears = subst (λ c. Hears before.phase c leaves_with.sent ends.0 leave) is leaves_with.hears;
      },
    )
whole_ends before behind byte content held now (course.Over ended.Broken) said is ends = absurd ends
whole_ends before behind byte content held now (course.Over ended.Failed) said is ends = tt
whole_ends before behind byte content held now (course.Over ended.NoMemory) said is ends = tt
