-- Times: a history is the calls so far, and the time after the last of them.
pub use Rattle.model.specs.Times.{History, new, ◌▸◌, ◌≼◌, now', later}
