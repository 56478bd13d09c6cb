-- Frames of code as those of the laws.
use Rattle.std.specs.Prelude.{List, map}
use Rattle.bl_tree.specs.declared.text.Text.{Text}
use Rattle.bl_simplify_laws_frames.specs.Reached.{Frame}
use Rattle.bl_simplify_facts.specs.Entries.{facts_of}
use Rattle.bl_simplify_frames.specs.declared.frames.OwnFrame.{OwnFrame}
use Rattle.bl_simplify_frames.specs.declared.frames.Part.{Part}

-- a part as one of a frame of the laws
abbrev pub part_of : Part → Text × Text
part_of part = (part.member, part.function)

-- a frame of the laws
abbrev pub as_frame : OwnFrame → Frame
as_frame frame = record {
  name = frame.name;
  pointer = frame.pointer;
  struct = frame.of;
  parts = map part_of frame.parts;
  reached = facts_of frame.reached;
}

-- frames of the laws
abbrev pub as_frames : List OwnFrame → List Frame
as_frames frames = map as_frame frames
