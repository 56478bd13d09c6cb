-- Tests with two answers.
use Rattle.std.proofs.Common.{◌≡◌, ◌&&◌}
