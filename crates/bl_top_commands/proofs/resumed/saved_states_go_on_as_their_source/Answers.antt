use Rattle.bl_top_commands.proofs.GoesOn.{states_meant, states_source}
use Rattle.bl_top_commands.proofs.Resumes.{further_saves_leave, resumes_show, saves_leave}
use Rattle.bl_top_commands.proofs.Taken.{states_taken}
use Rattle.bl_top_commands.proofs.resumed.saved_states_go_on_as_their_source.Goals as goal

pub returns-clause-meaning : goal.returns-clause-meaning
returns-clause-meaning c = states_meant c.state_goes_on.ensures.trace c.bytes_behave_as_their_file.ensures.each

pub returns-clause-source : goal.returns-clause-source
returns-clause-source c =
    states_source c.state_goes_on.ensures.trace c.bytes_behave_as_their_file.ensures.each c.rows_of_bytes_fit.ensures c.rows_of_lines_fit.ensures

pub returns-clause-saved : goal.returns-clause-saved
returns-clause-saved c = saves_leave c.rows_of_bytes_fit.ensures

pub returns-clause-saved_further : goal.returns-clause-saved_further
returns-clause-saved_further c =
    further_saves_leave c.bytes_behave_as_their_file.ensures.each c.states_are_short.ensures c.rows_of_bytes_fit.ensures
    c.state_goes_on.ensures.trace c.state_goes_on.ensures.state

pub returns-clause-taken : goal.returns-clause-taken
returns-clause-taken c = states_taken c.bytes_behave_as_their_file.ensures.each c.states_are_short.ensures

pub returns-clause-resumed : goal.returns-clause-resumed
returns-clause-resumed c =
    resumes_show c.bytes_behave_as_their_file.ensures.each c.states_are_short.ensures c.rows_of_bytes_fit.ensures c.rows_of_lines_fit.ensures
    c.state_goes_on.ensures.trace
