use Rattle.std.proofs.Common.{◌≡◌, arith, length, sym, subst, take, ◌∙◌}
use Rattle.std.proofs.lemmas.List.{length-take-le}
use Rattle.bl_io.specs.Left.{HandsOver}
use Rattle.bl_rows.specs.Reading.{fault_in}
use Rattle.bl_rows_stream.specs.inner.Taking.{TakesOn}
use Rattle.bl_rows_stream.proofs.Reaches.{reads-on}
use Rattle.bl_rows_stream.proofs.Steps.{read-all, read-more, reads-piece, still-there}
use Rattle.bl_rows_stream.proofs.Takings.{end-takes, no-fault, piece-takes, unread-takes}
use Rattle.std.specs.Prelude.{None}
use Rattle.bl_rows_stream.proofs.gathered.take.Goals as goal

pub returns-in_err-finish-in-Ok-eq0-clause-reads : goal.returns-in_err-finish-in-Ok-eq0-clause-reads
returns-in_err-finish-in-Ok-eq0-clause-reads g c = λ ins all taken.
    reads-piece ins all _ _ taken.read c.read_next.new.room c.in-Ok-eq0.field-0 (length c.args.room.now) c.args.reader.now taken.has_read taken.fed
    c.in-Ok-eq0.ensures.bound c.requires.short c.in-Ok-eq0.ensures.few c.in-Ok-eq0.ensures.front

pub returns-in_err-feed-in-Ok-clause-reads : goal.returns-in_err-feed-in-Ok-clause-reads
returns-in_err-feed-in-Ok-clause-reads g c = λ ins all taken.
    reads-piece ins all _ _ taken.read c.read_next.new.room c.in-Ok.n (length c.args.room.now) c.args.reader.now taken.has_read taken.fed
    c.in-Ok.ensures.bound c.requires.short c.in-Ok.ensures.few c.in-Ok.ensures.front

pub returns-in_ok-finish-in-Ok-eq0-clause-takes : goal.returns-in_ok-finish-in-Ok-eq0-clause-takes
returns-in_ok-finish-in-Ok-eq0-clause-takes g c = λ ins all taken.
    let left = g.F.Files.left c.args.files.now c.args.name.now in
    let next = g.F.Files.left c.read_next.new.files c.args.name.now in
    end-takes ins all next c.args.reader.now c.args.rows.now.items c.finish.new.rows.items left taken
    (read-all all left next taken.read c.read_next.new.room taken.has_read
    (subst (λ n. HandsOver left n c.read_next.new.room next) c.in-Ok-eq0.field-0-test c.in-Ok-eq0.ensures.front))
    c.in_ok-finish-in-Ok-eq0.ensures.rows c.in_ok-finish-in-Ok-eq0.field-0 c.in_ok-finish-in-Ok-eq0.ensures.fault

pub returns-in_ok-finish-in-Ok-eq0-clause-reads : goal.returns-in_ok-finish-in-Ok-eq0-clause-reads
returns-in_ok-finish-in-Ok-eq0-clause-reads g c = λ ins all taken.
    reads-piece ins all _ _ taken.read c.read_next.new.room c.in-Ok-eq0.field-0 (length c.args.room.now) c.args.reader.now taken.has_read taken.fed
    c.in-Ok-eq0.ensures.bound c.requires.short c.in-Ok-eq0.ensures.few c.in-Ok-eq0.ensures.front

pub returns-in_ok-feed-in-Ok-clause-further : goal.returns-in_ok-feed-in-Ok-clause-further
returns-in_ok-feed-in-Ok-clause-further g c = λ is.
    let piece = take c.in-Ok.n c.read_next.new.room in
    let none = no-fault c.in_ok-feed-in-Ok.field-0 (sym c.at_fault.ensures ∙ is) in
    let good : fault_in c.args.reader.now piece ≡ None = sym c.in_ok-feed-in-Ok.ensures.fault ∙ none in
    let on = reads-on c.args.reader.now c.feed.new.reader piece c.requires.taken.2.low good (c.in_ok-feed-in-Ok.ensures.state none) in
    let some = c.in-Ok.n-test.1 in
    let bound = c.in-Ok.ensures.bound in
    let room = c.read_next.auto.room in
    let long : length piece ≡ c.in-Ok.n = length-take-le c.in-Ok.n c.read_next.new.room (omega (arith, bound, room)) in
    omega (arith, on, long, some)

pub returns-in_ok-feed-in-Ok-clause-takes : goal.returns-in_ok-feed-in-Ok-clause-takes
returns-in_ok-feed-in-Ok-clause-takes g c = λ ins all taken.
    let left = g.F.Files.left c.args.files.now c.args.name.now in
    let next = g.F.Files.left c.read_next.new.files c.args.name.now in
    subst (TakesOn ins all next c.feed.new.reader c.feed.new.rows.items) (sym c.at_fault.ensures)
    (piece-takes ins all left next c.args.reader.now c.feed.new.reader c.args.rows.now.items c.feed.new.rows.items taken
    (take c.in-Ok.n c.read_next.new.room)
    (read-more all left next taken.read c.read_next.new.room c.in-Ok.n taken.has_read c.in-Ok.ensures.front)
    c.in_ok-feed-in-Ok.ensures.rows c.in_ok-feed-in-Ok.ensures.any_cut c.in_ok-feed-in-Ok.field-0 c.in_ok-feed-in-Ok.ensures.fault
    c.in_ok-feed-in-Ok.ensures.state
    c.in_ok-feed-in-Ok.ensures.joins c.in_ok-feed-in-Ok.ensures.stop c.in_ok-feed-in-Ok.ensures.unended c.in_ok-feed-in-Ok.ensures.short)

pub returns-in_ok-feed-in-Ok-clause-reads : goal.returns-in_ok-feed-in-Ok-clause-reads
returns-in_ok-feed-in-Ok-clause-reads g c = λ ins all taken.
    reads-piece ins all _ _ taken.read c.read_next.new.room c.in-Ok.n (length c.args.room.now) c.args.reader.now taken.has_read taken.fed
    c.in-Ok.ensures.bound c.requires.short c.in-Ok.ensures.few c.in-Ok.ensures.front

pub returns-in-Err-Failed-clause-takes : goal.returns-in-Err-Failed-clause-takes
returns-in-Err-Failed-clause-takes g c = λ ins all taken.
    unread-takes ins all _ _ c.args.reader.now c.args.rows.now.items taken c.in-Err-Failed.ensures.err

pub returns-in-Err-Failed-clause-reads : goal.returns-in-Err-Failed-clause-reads
returns-in-Err-Failed-clause-reads g c = λ ins all taken.
    still-there all _ _ taken.read taken.has_read c.in-Err-Failed.ensures.err ins taken.fed.good

pub returns-in-Err-NoMemory-clause-reads : goal.returns-in-Err-NoMemory-clause-reads
returns-in-Err-NoMemory-clause-reads g c = λ ins all taken.
    still-there all _ _ taken.read taken.has_read c.in-Err-NoMemory.ensures.err ins taken.fed.good
