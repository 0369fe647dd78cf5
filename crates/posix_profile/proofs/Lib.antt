mod Checks
mod StepChecks
