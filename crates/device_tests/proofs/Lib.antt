pub mod SmallDeviceLaws
