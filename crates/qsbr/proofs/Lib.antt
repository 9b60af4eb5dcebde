pub mod RunningIntervals
